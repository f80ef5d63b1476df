use Rattle.std.proofs.Common.{◌≡◌, inl, inr, arith, rules, sym, subst, FitsSigned, w32}
use Rattle.rathonsi_c.proofs.ImageLaws.{bound_alone}
use Rattle.rathonsi_c.proofs.AnswerLaws.{damaged_keeps_none}
use Rattle.std.proofs.lemmas.Int.{to_z-of_z}
use Rattle.rathonsi_c.specs.declared.TheConstants.{BAD_VALUE}
use Rattle.rathonsi_c.specs.Causes.{IfCause, IsDone}
use Rattle.rathonsi_c.specs.Routes.{IsFarAhead, ReserveAnswers}
use Rattle.rathonsi_c.proofs.BoundLaws.{weaker_plan}
use Rattle.rathonsi_c.proofs.route.rathonsi_route_reserve.Goals as goal

pub returns-clause-answer : goal.returns-clause-answer
returns-clause-answer c =
    let r = c.args.route.now in
    let image = c.args.image.now in
    let in_use = c.in-Ok.ensures.kept.0 in
    let kept = c.in-Ok.ensures.kept.1 in
    let direction = c.in-Ok.kept.direction in
    let bound = c.in-Ok.kept.bound in
    inr (
      (λ busy. busy c.in-Ok.ensures.empty),
      inr (
        (λ bad. elim bad [ inl out ↦ out direction in_use.ranges | inr closed ↦ closed in_use.opened ]),
        inr (
          (λ others. (others direction in_use.ranges).no_bound bound kept),
          inr (
            (λ damaged. damaged_keeps_none image r.cell r.data_id direction bound damaged kept),
            inr (
              (λ far.
                  let same : far.bound ≡ bound = bound_alone image r.cell r.data_id far.direction direction far.bound bound far.kept kept in
                  let ahead = far.far in
                  let near = c.if-freshness-saturating_add.false in
                  let sum = c.saturating_add.ensures in
                  let fits = c.ranges.freshness.fits in
                  omega arith),
              search rules,
            ),
          ),
        ),
      ),
    )

pub returns-in-Err-clause-answer : goal.returns-in-Err-clause-answer
returns-in-Err-clause-answer c =
    let r = c.args.route.now in
    let image = c.args.image.now in
    let status = c.in-Err.status in
    let fits : FitsSigned w32 status = search rules in
    subst (λ s. ReserveAnswers c.args.route.now c.args.image.now c.args.freshness c.args.plan.now s) (sym (to_z-of_z w32 status fits))
    (weaker_plan r image c.args.plan.now (λ _. ⊥) (IfCause (IsFarAhead r image c.args.freshness) BAD_VALUE IsDone) status (λ says. absurd says) c.in-Err.ensures.refused)
