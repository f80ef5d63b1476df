use Rattle.std.proofs.Common.{inr, refl, rules, sym, subst, FitsSigned, w32}
use Rattle.freshness_routes.specs.declared.routes.Direction.TheVariants.{Receives}
use Rattle.rathonsi_c.specs.declared.TheConstants.{FRESHNESS_FAILURE, RESERVE}
use Rattle.rathonsi_c.specs.Causes.{IfCause, IsDone}
use Rattle.rathonsi_c.specs.Routes.{BoundBelow, status_alone}
use Rattle.rathonsi_c.specs.Freshness.{WithinWindow, AcceptAnswers}
use Rattle.rathonsi_c.proofs.BoundLaws.{bounded_rest, weaker_rest}
use Rattle.rathonsi_c.proofs.FreshnessLaws.{covered_here}
use Rattle.std.proofs.lemmas.Int.{to_z-of_z}
use Rattle.rathonsi_c.proofs.freshness.rathonsi_freshness_accept.Goals as goal

pub returns-clause-answer : goal.returns-clause-answer
returns-clause-answer c =
    let r = c.args.route.now in
    let image = c.args.image.now in
    let freshness = c.args.freshness in
    let kept = c.in-Ok.ensures.kept in
    inr (
      (λ other. other c.if-route-ne1.false),
      bounded_rest status_alone r Receives image c.in-Ok.bound (IfCause (¬ WithinWindow r.counter r.window freshness) FRESHNESS_FAILURE (IfCause (BoundBelow r image Receives freshness) RESERVE IsDone)) _ c.in-Ok.ensures.in_use kept (inr (
        (λ out. out (record { above = search rules; near = search rules })),
        inr ((λ under. covered_here r image Receives c.in-Ok.bound freshness kept (search rules) under), refl),
      )),
    )

pub returns-in-Err-clause-answer : goal.returns-in-Err-clause-answer
returns-in-Err-clause-answer c =
    let r = c.args.route.now in
    let status = c.in-Err.status in
    let fits : FitsSigned w32 status = search rules in
    subst (λ s. AcceptAnswers c.args.route.now c.args.image.now c.args.freshness s) (sym (to_z-of_z w32 status fits)) (inr (
      (λ other. other c.if-route-ne1.false),
      weaker_rest status_alone r Receives c.args.image.now (λ _. ⊥) (IfCause (¬ WithinWindow r.counter r.window c.args.freshness) FRESHNESS_FAILURE (IfCause (BoundBelow r c.args.image.now Receives c.args.freshness) RESERVE IsDone)) status (λ says. absurd says) c.in-Err.ensures.refused,
    ))
