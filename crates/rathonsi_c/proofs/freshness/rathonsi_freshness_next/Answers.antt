use Rattle.std.proofs.Common.{inr, refl, arith, sym, subst, FitsSigned, w32, rules, ℤ, ◌≢◌}
use Rattle.rathonsi_c.specs.Causes.{IsDone}
use Rattle.rathonsi_c.proofs.BoundLaws.{next_rest, weaker_rest}
use Rattle.std.proofs.lemmas.Int.{to_z-of_z}
use Rattle.freshness_routes.specs.declared.routes.Direction.TheVariants.{Sends}
use Rattle.rathonsi_c.specs.declared.TheConstants.{OK}
use Rattle.rathonsi_c.specs.Routes.{CounterAnswers, status_alone}
use Rattle.rathonsi_c.specs.Freshness.{NextAnswers}
use Rattle.rathonsi_c.proofs.freshness.rathonsi_freshness_next.Goals as goal

pub returns-in-Ok-clause-answer : goal.returns-in-Ok-clause-answer
returns-in-Ok-clause-answer c =
    let covered = c.in-Ok.ensures.covered in
    inr (
      (λ other. other c.if-route-ne1.false),
      next_rest c.args.route.now c.args.image.now covered.bound IsDone _ c.in-Ok.ensures.in_use covered.kept (let n = c.in-Ok.ensures.next in let k = covered.covers in omega arith) refl,
    )

pub returns-in-Err-clause-answer : goal.returns-in-Err-clause-answer
returns-in-Err-clause-answer c =
    let r = c.args.route.now in
    let image = c.args.image.now in
    let status = c.in-Err.status in
    let fits : FitsSigned w32 status = search rules in
    subst (λ s. NextAnswers c.args.route.now c.args.image.now s) (sym (to_z-of_z w32 status fits)) (inr (
      (λ other. other c.if-route-ne1.false),
      weaker_rest status_alone r Sends image (λ (answer : ℤ). (answer ≢ OK) × CounterAnswers r image answer) (CounterAnswers r image) status (λ says. says.1) c.in-Err.ensures.refused,
    ))
