use Rattle.std.proofs.Common.{◌+◌, ◌^◌, ◌≡◌, FitsSigned, inr, rules, subst, sym, w32}
use Rattle.std.proofs.lemmas.Int.{to_z-of_z}
use Rattle.freshness_routes.specs.declared.routes.Direction.TheVariants.{Sends}
use Rattle.store_plan.specs.Plans.{IsEmptyPlan}
use Rattle.rathonsi_c.specs.declared.TheConstants.{EXHAUSTED}
use Rattle.rathonsi_c.specs.Causes.{IfCause}
use Rattle.rathonsi_c.specs.Routes.{status_alone}
use Rattle.rathonsi_c.specs.Reserving.{ReserveNextAnswers, FreshAnswers}
use Rattle.rathonsi_c.proofs.BoundLaws.{weaker_rest}
use Rattle.rathonsi_c.proofs.reserving.rathonsi_route_reserve_next.Goals as goal

pub returns-in-Err-clause-answer : goal.returns-in-Err-clause-answer
returns-in-Err-clause-answer c =
    let r = c.args.route.now in
    let image = c.args.image.now in
    let status = c.in-Err.status in
    let fits : FitsSigned w32 status = search rules in
    let empty : IsEmptyPlan c.args.plan.now = search rules in
    subst (λ s. ReserveNextAnswers c.args.route.now c.args.image.now c.args.plan.now s) (sym (to_z-of_z w32 status fits)) (inr (
      (λ full. full empty),
      weaker_rest status_alone r Sends image (λ _. ⊥) (IfCause (r.counter + 1 ≡ 2 ^ 64) EXHAUSTED (FreshAnswers r Sends image (r.counter + 1))) status (λ says. absurd says) c.in-Err.ensures.refused,
    ))
