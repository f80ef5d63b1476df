use Rattle.std.proofs.Common.{◌≡◌, ◌∙◌, ℕ, List, Bool, true, refl, inr, sym, ap, length, replicate, subst}
use Rattle.std.proofs.lemmas.List.{length-replicate}
use Rattle.std.specs.Fn.{FnOnceReturnsAtMut}
use Rattle.basics.proofs.Padding.{first_zeros, written_over, written_front}
use Rattle.basics.proofs.pdu.Pdu.filled_by.Goals as goal

pub returns-then-not-fill-clause-refused : goal.returns-then-not-fill-clause-refused
returns-then-not-fill-clause-refused g c none =
    let gave : FnOnceReturnsAtMut g.F.FnOnce c.args.fill (replicate c.args.len 0) c.fill.result c.fill.new.arg2 = record { shown = _; shows = first_zeros c.args.len c.if-len-gt64.false; left = _; met = c.fill.ensures; leaves = refl } in
    inr (c.fill.new.arg2, subst (λ (b : Bool). FnOnceReturnsAtMut g.F.FnOnce c.args.fill (replicate c.args.len 0) b c.fill.new.arg2) c.if-not-fill.true gave)

pub invariant_of-result : goal.invariant_of-result
invariant_of-result g c =
    let size : length c.fill.new.arg2 ≡ c.args.len = c.fill.auto.arg2 ∙ ap length (first_zeros c.args.len c.if-len-gt64.false) ∙ length-replicate {A = ℕ} c.args.len 0 in
    written_over c.fill.new.arg2 c.args.len size

pub returns-clause-size : goal.returns-clause-size
returns-clause-size g c =
    let size : length c.fill.new.arg2 ≡ c.args.len = c.fill.auto.arg2 ∙ ap length (first_zeros c.args.len c.if-len-gt64.false) ∙ length-replicate {A = ℕ} c.args.len 0 in
    ap length (written_front c.fill.new.arg2 c.args.len size) ∙ size

pub returns-clause-value : goal.returns-clause-value
returns-clause-value g c =
    let size : length c.fill.new.arg2 ≡ c.args.len = c.fill.auto.arg2 ∙ ap length (first_zeros c.args.len c.if-len-gt64.false) ∙ length-replicate {A = ℕ} c.args.len 0 in
    let gave : FnOnceReturnsAtMut g.F.FnOnce c.args.fill (replicate c.args.len 0) c.fill.result c.fill.new.arg2 = record { shown = _; shows = first_zeros c.args.len c.if-len-gt64.false; left = _; met = c.fill.ensures; leaves = refl } in
    let yes : FnOnceReturnsAtMut g.F.FnOnce c.args.fill (replicate c.args.len 0) true c.fill.new.arg2 = subst (λ (b : Bool). FnOnceReturnsAtMut g.F.FnOnce c.args.fill (replicate c.args.len 0) b c.fill.new.arg2) c.if-not-fill.false gave in
    subst (λ (p : List ℕ). FnOnceReturnsAtMut g.F.FnOnce c.args.fill (replicate c.args.len 0) true p) (sym (written_front c.fill.new.arg2 c.args.len size)) yes
