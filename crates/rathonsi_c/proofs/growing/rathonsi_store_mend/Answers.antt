use Rattle.std.proofs.Common.{inr, refl, sym, subst, FitsSigned, w32, rules}
use Rattle.std.proofs.lemmas.Int.{to_z-of_z}
use Rattle.rathonsi_c.specs.Causes.{IsDone}
use Rattle.rathonsi_c.specs.Growing.{MendAnswers, TellAnswers}
use Rattle.rathonsi_c.proofs.GrowthAnswers.{tell-says, tell-none}
use Rattle.rathonsi_c.proofs.growing.rathonsi_store_mend.Goals as goal

pub returns-then-not-has_head-clause-answer : goal.returns-then-not-has_head-clause-answer
returns-then-not-has_head-clause-answer c =
    inr ((λ full. full (c.is_empty.ensures.0 c.if-not-is_empty.false)), tell-says c.args.image.now c.in-Ok.cells IsDone _ c.in-Ok.ensures.told refl)

pub returns-else-not-has_head-clause-answer : goal.returns-else-not-has_head-clause-answer
returns-else-not-has_head-clause-answer c =
    inr ((λ full. full (c.is_empty.ensures.0 c.if-not-is_empty.false)), tell-says c.args.image.now c.in-Ok.cells IsDone _ c.in-Ok.ensures.told refl)

pub returns-in-Err-clause-answer : goal.returns-in-Err-clause-answer
returns-in-Err-clause-answer c =
    let fits : FitsSigned w32 c.untold_status.result = search rules in
    subst (λ s. MendAnswers c.args.image.now c.args.plan.now s) (sym (to_z-of_z w32 c.untold_status.result fits))
    (inr (
      (λ full. full (c.is_empty.ensures.0 c.if-not-is_empty.false)),
      subst (λ s. TellAnswers c.args.image.now IsDone s) (sym c.untold_status.ensures) (tell-none c.args.image.now IsDone _ c.in-Err.ensures.untold),
    ))
