use Rattle.std.proofs.Common.{inr, refl, subst, arith, rules}
use Rattle.freshness_routes.specs.declared.routes.Direction.TheVariants.{Sends}
use Rattle.rathonsi_c.specs.Routes.{RouteAnswers, CounterAnswers, status_alone}
use Rattle.rathonsi_c.proofs.AnswerLaws.{refused_send, done_send}
use Rattle.rathonsi_c.proofs.nonces.rathonsi_sync_nonce.Goals as goal

pub returns-in-Err-clause-answer : goal.returns-in-Err-clause-answer
returns-in-Err-clause-answer c = inr (
  (λ other. other c.if-route-ne1.false),
  subst (λ s. RouteAnswers status_alone c.args.route.now Sends c.args.image.now (CounterAnswers c.args.route.now c.args.image.now) s) (search rules) (refused_send c.args.route.now c.args.image.now c.in-Err.refusal c.in-Err.ensures.refused),
)

pub returns-clause-answer : goal.returns-clause-answer
returns-clause-answer c = inr (
  (λ other. other c.if-route-ne1.false),
  done_send c.args.route.now c.args.image.now c.in-Ok.sending.key c.in-Ok.ensures.covered.bound _ (record { ranges = c.in-Ok.ensures.in_use.ranges; opened = c.in-Ok.ensures.in_use.opened; kept = c.in-Ok.ensures.covered.kept; keyed = c.in-Ok.ensures.key })
      (let n = c.in-Ok.ensures.next in let k = c.in-Ok.ensures.covered.covers in omega arith) refl,
)
