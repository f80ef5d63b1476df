use Rattle.std.proofs.Common.{inr, sym, subst, FitsSigned, w32, rules}
use Rattle.std.proofs.lemmas.Int.{to_z-of_z}
use Rattle.freshness_routes.specs.declared.routes.Direction.{Direction}
use Rattle.rathonsi_c.specs.Causes.{IsDone}
use Rattle.rathonsi_c.specs.Routes.{status_alone}
use Rattle.rathonsi_c.specs.Steps.{BoundAnswers}
use Rattle.rathonsi_c.specs.Syncing.{AnswerInputAnswers, way_of}
use Rattle.rathonsi_c.proofs.BoundLaws.{weaker_rest}
use Rattle.rathonsi_c.proofs.sync.rathonsi_sync_answer_input.Goals as goal

pub returns-in-Err-clause-answer : goal.returns-in-Err-clause-answer
returns-in-Err-clause-answer c =
    let r = c.args.route.now in
    let image = c.args.image.now in
    let status = c.in-Err.status in
    let fits : FitsSigned w32 status = search rules in
    let refused = subst (λ (d : Direction). BoundAnswers status_alone r d image (λ _. ⊥) status) c.way.ensures c.in-Err.ensures.refused in
    subst (λ s. AnswerInputAnswers c.args.route.now c.args.image.now c.args.question.now s) (sym (to_z-of_z w32 status fits)) (inr (
      (λ one. one c.if-question.false),
      weaker_rest status_alone r (way_of r) image (λ _. ⊥) IsDone status (λ says. absurd says) refused,
    ))
