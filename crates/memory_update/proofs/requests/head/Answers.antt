use Rattle.std.proofs.Common.{refl, arith}
use Rattle.memory_update.specs.Messages.{HasSlots, HeadOf}
use Rattle.memory_update.proofs.CallerLemmas.{HasSlots-head}
use Rattle.memory_update.specs.declared.messages.Head.{Head}
use Rattle.memory_update.proofs.HeadSteps.{Read, read, found, found_only, missing_some, missing_only}
use Rattle.memory_update.proofs.requests.head.Goals as goal
use Rattle.memory_update.proofs.requests.head.Goals.{In_ok-auth}

no_id : (c : goal.After-from_residual) → ¬ HasSlots c.args.m1.now
no_id c = λ slots.
    let r = (read c.args.m1.now c.as_slice-m1.result.now c.copy_from_slice.new.self c.of-uid.result c.as_slice-m1.ensures.is_block c.as_slice-m1.ensures.value c.copy_from_slice.ensures.after c.of-uid.ensures.value) in
    c.in_err-id.ensures (omega (arith, r.id_is, slots.0))

no_auth : (c : goal.After-from_residual-in_err-auth) → ¬ HasSlots c.args.m1.now
no_auth c = λ slots.
    let r = (read c.args.m1.now c.as_slice-m1.result.now c.copy_from_slice.new.self c.of-uid.result c.as_slice-m1.ensures.is_block c.as_slice-m1.ensures.value c.copy_from_slice.ensures.after c.of-uid.ensures.value) in
    c.in_err-auth.ensures (omega (arith, r.auth_is, slots.1))

pub returns-in_err-id-clause-some : goal.returns-in_err-id-clause-some
returns-in_err-id-clause-some c = missing_some c.args.m1.now c.from_residual.result c.from_residual.ensures (no_id c)

pub returns-in_err-id-clause-only : goal.returns-in_err-id-clause-only
returns-in_err-id-clause-only c = missing_only c.args.m1.now c.from_residual.result (no_id c)

pub returns-in_err-auth-clause-some : goal.returns-in_err-auth-clause-some
returns-in_err-auth-clause-some c = missing_some c.args.m1.now c.from_residual-in_err-auth.result c.from_residual-in_err-auth.ensures (no_auth c)

pub returns-in_err-auth-clause-only : goal.returns-in_err-auth-clause-only
returns-in_err-auth-clause-only c = missing_only c.args.m1.now c.from_residual-in_err-auth.result (no_auth c)

the_head : (c : In_ok-auth) → Head
the_head c = record { uid = c.of-uid.result; id = c.in_ok-id.id; auth = c.in_ok-auth.auth }

is_found : (c : In_ok-auth) → HeadOf c.args.m1.now (the_head c)
unfolding the_head
is_found c =
    let r = (read c.args.m1.now c.as_slice-m1.result.now c.copy_from_slice.new.self c.of-uid.result c.as_slice-m1.ensures.is_block c.as_slice-m1.ensures.value c.copy_from_slice.ensures.after c.of-uid.ensures.value) in
    let whole : Read c.args.m1.now c.of-uid.result c.in_ok-id.id c.in_ok-auth.auth = record { uid_is = r.uid_is; id_is = omega (arith, r.id_is, c.in_ok-id.ensures.1); auth_is = omega (arith, r.auth_is, c.in_ok-auth.ensures.1) } in
    found c.args.m1.now (the_head c) c.as_slice-m1.ensures.is_block whole (omega (arith, c.in_ok-id.ensures.0, c.in_ok-id.ensures.1)) (omega (arith, c.in_ok-auth.ensures.0, c.in_ok-auth.ensures.1))

pub returns-clause-found : goal.returns-clause-found
unfolding the_head
returns-clause-found c = is_found c

pub returns-clause-some : goal.returns-clause-some
returns-clause-some c = (λ _. HasSlots-head c.args.m1.now (the_head c) (is_found c), λ _. refl)

pub returns-clause-only : goal.returns-clause-only
unfolding the_head
returns-clause-only c = found_only c.args.m1.now (the_head c) (is_found c)
