use Rattle.std.proofs.Common.{ℤ, ◌≢◌, inr, refl, sym, subst, FitsSigned, w32, arith, rules}
use Rattle.std.proofs.lemmas.Int.{to_z-of_z}
use Rattle.freshness_routes.specs.declared.routes.Direction.TheVariants.{Sends}
use Rattle.rathonsi_c.specs.declared.TheConstants.{OK}
use Rattle.rathonsi_c.specs.Causes.{IsDone}
use Rattle.rathonsi_c.specs.Routes.{CounterAnswers, status_alone}
use Rattle.rathonsi_c.specs.Steps.{SendInputAnswers}
use Rattle.rathonsi_c.proofs.BoundLaws.{weaker_rest, next_rest}
use Rattle.rathonsi_c.proofs.steps.rathonsi_send_input.Goals as goal

pub returns-in-Ok-clause-answer : goal.returns-in-Ok-clause-answer
returns-in-Ok-clause-answer c =
    let covered = c.in-Ok.ensures.covered in
    inr (
      search rules,
      inr (c.if-route-eq1.false, next_rest c.args.route.now c.args.image.now covered.bound IsDone _ c.in-Ok.ensures.in_use covered.kept (let n = c.in-Ok.ensures.next in let k = covered.covers in omega arith) refl),
    )

pub returns-in-Err-clause-answer : goal.returns-in-Err-clause-answer
returns-in-Err-clause-answer c =
    let r = c.args.route.now in
    let image = c.args.image.now in
    let status = c.in-Err.status in
    let fits : FitsSigned w32 status = search rules in
    subst (λ s. SendInputAnswers c.args.route.now c.args.image.now c.args.payload.now s) (sym (to_z-of_z w32 status fits)) (inr (
      search rules,
      inr (c.if-route-eq1.false, weaker_rest status_alone r Sends image (λ (answer : ℤ). (answer ≢ OK) × CounterAnswers r image answer) (CounterAnswers r image) status (λ says. says.1) c.in-Err.ensures.refused),
    ))
