use Rattle.std.proofs.Common.{◌≢◌, sym, subst, FitsSigned, w32, rules}
use Rattle.std.proofs.lemmas.Int.{to_z-of_z}
use Rattle.freshness_routes.specs.declared.routes.Direction.TheVariants.{Sends}
use Rattle.rathonsi_c.specs.declared.TheConstants.{OK}
use Rattle.rathonsi_c.specs.Routes.{CounterAnswers, status_alone}
use Rattle.rathonsi_c.specs.Steps.{NextRefused}
use Rattle.rathonsi_c.proofs.BoundLaws.{weaker_rest}
use Rattle.rathonsi_c.proofs.steps.next_freshness.Goals as goal

pub returns-in-Err-clause-refused : goal.returns-in-Err-clause-refused
returns-in-Err-clause-refused c =
    let r = c.args.route.now in
    let image = c.args.image.now in
    let status = c.in-Err.status in
    let fits : FitsSigned w32 status = search rules in
    subst (λ s. NextRefused c.args.route.now c.args.image.now s) (sym (to_z-of_z w32 status fits))
    (weaker_rest status_alone r Sends image (λ _. ⊥) (λ answer. (answer ≢ OK) × CounterAnswers r image answer) status (λ says. absurd says) c.in-Err.ensures.refused)
