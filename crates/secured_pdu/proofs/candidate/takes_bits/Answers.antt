use Rattle.std.proofs.Common.{◌≡◌, ◌-◌, sym, ◌∙◌, arith}
use Rattle.std.proofs.lemmas.Bool.{eqb-true, eq-eqb, false≢true}
use Rattle.std.proofs.Math.Nat.{mod-eq_of_lt}
use Rattle.secured_pdu.proofs.Candidates.{takes, last_fits}
use Rattle.secured_pdu.proofs.candidate.takes_bits.Goals as goal

pub returns-then-low_bits-truncated : goal.returns-then-low_bits-truncated
returns-then-low_bits-truncated c = (
  λ yes. absurd (false≢true yes),
  λ h. absurd (c.if-low_bits-truncated.true (c.low_bits.ensures ∙ mod-eq_of_lt h.truncated_fits)),
)

pub returns : goal.returns
returns c =
    let w = c.args.window in
    let b = c.args.bits in
    let t = c.args.truncated in
    let last = c.saturating_sub-last.result in
    let n = c.from.ensures in
    let m = c.saturating_sub-last.ensures in
    let is : last ≡ w - 1 = omega (arith, n, m) in (
      λ yes. takes w b t last c.if-bits-lt1.false c.if-bits-gt64.false is (sym c.low_bits.ensures ∙ c.if-low_bits-truncated.false) (sym c.low_bits-2.ensures ∙ eqb-true _ _ yes),
      λ h. eq-eqb _ _ (c.low_bits-2.ensures ∙ last_fits w b t last is h),
    )
