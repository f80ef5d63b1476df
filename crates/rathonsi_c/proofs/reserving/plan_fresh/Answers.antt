use Rattle.std.proofs.Common.{inr, sym, subst, FitsSigned, w32, rules, arith}
use Rattle.std.proofs.lemmas.Int.{to_z-of_z}
use Rattle.rathonsi_c.specs.Reserving.{FreshAnswers}
use Rattle.rathonsi_c.proofs.ReservingLaws.{far-above}
use Rattle.rathonsi_c.proofs.reserving.plan_fresh.Goals as goal

pub returns-clause-answer : goal.returns-clause-answer
returns-clause-answer c =
    let r = c.args.route.now in
    let image = c.args.image.now in
    let d = c.args.direction in
    let f = c.args.freshness in
    let fits : FitsSigned w32 c.plan_ahead.result = search rules in
    subst (λ s. FreshAnswers r d image f s) (sym (to_z-of_z w32 c.plan_ahead.result fits)) (inr (
      (λ far.
          let above = far-above r image d c.args.bound c.requires.1.1 f far in
          let near = c.if-freshness-saturating_add.false in
          let sum = c.saturating_add.ensures in
          let few = c.ranges.freshness.fits in
          omega arith),
      c.plan_ahead.ensures.answer,
    ))
