-- The refusals of a load, each at its place.
use Rattle.std.proofs.Common.{◌≢◌, subst, ◌∙◌}
use Rattle.key_slots.specs.Slots.{slot_at}
use Rattle.memory_update.specs.Messages.{Carries, id_of, request_mac}
use Rattle.memory_update.proofs.CallerLemmas.{HasSlots-head, is_fit-other_mac}
use Rattle.memory_update.specs.Loading.{authorising_key}
use Rattle.she_engine.proofs.Refusals.{no_head, head_refused, not_fit, fit, authorising_key_got, other_mac, test_is}
use Rattle.she_engine.proofs.loading.allowed.Goals as goal

pub returns-in_default : goal.returns-in_default
returns-in_default c =
    no_head c.args.slots.now c.args.good c.args.uid c.args.request.now (λ slots. let there = c.in_default.ensures.some.1 slots in cc)

pub returns-in-Err : goal.returns-in-Err
returns-in-Err c =
    head_refused c.args.slots.now c.args.good c.args.uid c.args.request.now c.in-Some.head c.in-Err.refusal c.in-Some.ensures.found c.in-Err.ensures

pub returns-in-Err-unseal : goal.returns-in-Err-unseal
returns-in-Err-unseal c =
    let slots = c.args.slots.now in
    let request = c.args.request.now in
    let head = c.in-Some.head in
    let of = c.in-Some.ensures.found in
    let key = authorising_key_got slots request head c.slot_at.result.now c.key_in.result of c.slot_at.ensures.value c.key_in.ensures in
    let other = other_mac request c.key_in.result c.unseal.result c.in-Err-unseal.field-0 c.in-Err-unseal.is (HasSlots-head request.m1 head of) c.unseal.ensures.bad_id c.unseal.ensures.bad_mac in
    let differs = subst (λ k. request.m3 ≢ request_mac k request.m1 request.m2) key other in
    not_fit slots c.args.good c.args.uid request head of c.in_default-head_refusal.ensures (is_fit-other_mac c.args.uid (slot_at slots (id_of request.m1)) (authorising_key slots request) request differs)

pub returns-then-is_fit : goal.returns-then-is_fit
returns-then-is_fit c =
    let slots = c.args.slots.now in
    let request = c.args.request.now in
    let head = c.in-Some.head in
    let of = c.in-Some.ensures.found in
    let key = authorising_key_got slots request head c.slot_at.result.now c.key_in.result of c.slot_at.ensures.value c.key_in.ensures in
    let test = test_is slots c.args.uid request head c.in-Ok.update c.slot_at-2.result.now c.key_in.result c.is_fit.result c.slot_at.ensures.whole of c.slot_at-2.ensures.value key c.in-Ok.ensures.carried c.is_fit.ensures in
    fit slots c.args.good c.args.uid request head c.in-Ok.update of c.in_default-head_refusal.ensures (test ∙ c.if-is_fit.true) (subst (λ k. Carries request k c.in-Ok.update) key c.in-Ok.ensures.carried)

pub returns-else-is_fit : goal.returns-else-is_fit
returns-else-is_fit c =
    let slots = c.args.slots.now in
    let request = c.args.request.now in
    let head = c.in-Some.head in
    let of = c.in-Some.ensures.found in
    let key = authorising_key_got slots request head c.slot_at.result.now c.key_in.result of c.slot_at.ensures.value c.key_in.ensures in
    let test = test_is slots c.args.uid request head c.in-Ok.update c.slot_at-2.result.now c.key_in.result c.is_fit.result c.slot_at.ensures.whole of c.slot_at-2.ensures.value key c.in-Ok.ensures.carried c.is_fit.ensures in
    not_fit slots c.args.good c.args.uid request head of c.in_default-head_refusal.ensures (test ∙ c.if-is_fit.false)
