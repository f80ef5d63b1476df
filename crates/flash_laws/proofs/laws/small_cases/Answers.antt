use Rattle.std.proofs.Common.{inl, inr, ◌∙◌}
use Rattle.flash_laws.proofs.laws.small_cases.Goals as goal

pub returns-clause-cut_put : goal.returns-clause-cut_put
returns-clause-cut_put c = λ now p. elim p.1.0 [ inl old ↦ inl (p.1.1 ∙ old) | inr new ↦ inr (p.1.1 ∙ new) ]
