use Rattle.std.proofs.Common.{◌≡◌, FitsSigned, inr, rules, subst, sym, w32}
use Rattle.std.proofs.lemmas.Int.{to_z-of_z}
use Rattle.freshness_routes.specs.declared.routes.Direction.TheVariants.{Receives}
use Rattle.store_plan.specs.Plans.{IsEmptyPlan}
use Rattle.rathonsi_c.specs.declared.TheConstants.{RESERVE}
use Rattle.rathonsi_c.specs.Routes.{status_alone}
use Rattle.rathonsi_c.specs.Reserving.{ReserveForAnswers, FreshAnswers}
use Rattle.rathonsi_c.proofs.BoundLaws.{weaker_rest}
use Rattle.rathonsi_c.proofs.reserving.rathonsi_route_reserve_for.Goals as goal

pub returns-in-Err-clause-answer : goal.returns-in-Err-clause-answer
returns-in-Err-clause-answer c =
    let r = c.args.route.now in
    let image = c.args.image.now in
    let verdict = c.args.verdict.now in
    let status = c.in-Err.status in
    let fits : FitsSigned w32 status = search rules in
    let empty : IsEmptyPlan c.args.plan.now = search rules in
    let reserves : c.args.verdict.now.status ≡ RESERVE = search rules in
    subst (λ s. ReserveForAnswers c.args.route.now c.args.verdict.now c.args.image.now c.args.plan.now s) (sym (to_z-of_z w32 status fits)) (inr (
      (λ full. full empty),
      inr (
        (λ other. other reserves),
        weaker_rest status_alone r Receives image (λ _. ⊥) (FreshAnswers r Receives image verdict.freshness) status (λ says. absurd says) c.in-Err.ensures.refused,
      ),
    ))
