use Rattle.std.proofs.Common.{inr, refl, subst, rules}
use Rattle.freshness_routes.specs.declared.routes.Direction.{Direction}
use Rattle.rathonsi_c.specs.Causes.{IsDone}
use Rattle.rathonsi_c.specs.Refused.{RouteRefused}
use Rattle.rathonsi_c.specs.Routes.{RouteReady, status_alone}
use Rattle.rathonsi_c.specs.Syncing.{SyncAnswerAnswers, way_of}
use Rattle.rathonsi_c.proofs.AnswerLaws.{refused_route, ready_route}
use Rattle.rathonsi_c.proofs.sync.rathonsi_sync_answer.Goals as goal

pub returns-in-Err-clause-answer : goal.returns-in-Err-clause-answer
returns-in-Err-clause-answer c =
    let r = c.args.route.now in
    let image = c.args.image.now in
    let refused = subst (λ (d : Direction). RouteRefused r d image c.in-Err.refusal) c.way.ensures c.in-Err.ensures.refused in
    subst (λ s. SyncAnswerAnswers c.args.route.now c.args.image.now c.args.question.now s) (search rules) (inr (
      (λ one. one c.if-question.false),
      refused_route status_alone r (way_of r) image IsDone c.in-Err.refusal refused,
    ))

pub returns-clause-answer : goal.returns-clause-answer
returns-clause-answer c =
    let r = c.args.route.now in
    let image = c.args.image.now in
    let ready = subst (λ (d : Direction). RouteReady r d image c.in-Ok.ready.key c.in-Ok.ready.bound) c.way.ensures c.in-Ok.ensures.ready in
    inr ((λ one. one c.if-question.false), ready_route status_alone r (way_of r) image c.in-Ok.ready.key c.in-Ok.ready.bound IsDone _ ready refl)
