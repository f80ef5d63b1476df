use Rattle.std.proofs.Common.{refl, sym, subst, FitsSigned, w32, rules}
use Rattle.std.proofs.lemmas.Int.{to_z-of_z}
use Rattle.rathonsi_c.specs.Causes.{IsDone}
use Rattle.rathonsi_c.specs.Growing.{SizeAnswers}
use Rattle.rathonsi_c.proofs.GrowthAnswers.{tell-says, tell-none}
use Rattle.rathonsi_c.proofs.growing.rathonsi_store_size.Goals as goal

pub returns-in-Ok-clause-answer : goal.returns-in-Ok-clause-answer
returns-in-Ok-clause-answer c = tell-says c.args.image.now c.in-Ok.cells IsDone _ c.in-Ok.ensures.told refl

pub returns-in-Err-clause-answer : goal.returns-in-Err-clause-answer
returns-in-Err-clause-answer c =
    let fits : FitsSigned w32 c.untold_status.result = search rules in
    subst (λ s. SizeAnswers c.args.image.now s) (sym (to_z-of_z w32 c.untold_status.result fits))
    (subst (λ s. SizeAnswers c.args.image.now s) (sym c.untold_status.ensures) (tell-none c.args.image.now IsDone _ c.in-Err.ensures.untold))
