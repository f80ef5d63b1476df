use Rattle.std.proofs.Common.{inl, inr, refl, sym, ◌∙◌, arith}
use Rattle.std.specs.Cmp.Lexicographic.{same_text, other_text}
use Rattle.rathonsi_c.proofs.InputLaws.{take_three}
use Rattle.rathonsi_c.proofs.steps.judge_by.Goals as goal

pub returns-then-eq : goal.returns-then-eq
returns-then-eq c = inl (sym (same_text _ _ c.if-eq.ensures) ∙ sym (take_three c.args.mac.now (omega arith)), refl)

pub returns-else-eq : goal.returns-else-eq
returns-else-eq c = inr ((λ same. other_text _ _ c.if-eq.ensures (sym (take_three c.args.mac.now (omega arith)) ∙ sym same)), refl)
