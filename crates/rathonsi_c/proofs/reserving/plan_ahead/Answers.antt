use Rattle.std.proofs.Common.{inr, refl, arith}
use Rattle.rathonsi_c.proofs.ReservingLaws.{reserved-high}
use Rattle.rathonsi_c.proofs.reserving.plan_ahead.Goals as goal

pub returns-in-Ok-clause-answer : goal.returns-in-Ok-clause-answer
returns-in-Ok-clause-answer c = inr (
  (λ h.
      let high = reserved-high c.args.route.now c.args.image.now c.args.direction c.args.bound c.requires.1.1 c.args.freshness h in
      let to = c.bound_ahead-to.ensures in
      let above = c.if-to-bound.false in
      omega arith),
  refl,
)
