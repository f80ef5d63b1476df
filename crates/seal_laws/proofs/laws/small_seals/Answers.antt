use Rattle.std.proofs.Common.{inl, inr, ◌∙◌}
use Rattle.seal_laws.proofs.laws.small_seals.Goals as goal

pub returns-clause-cut : goal.returns-clause-cut
returns-clause-cut c = λ now p. elim p.1.0 [ inl old ↦ inl (p.1.1.1.1 ∙ (p.1.1.1.0 ∙ old)) | inr new ↦ inr (p.1.1.1.1 ∙ (p.1.1.1.0 ∙ new)) ]
