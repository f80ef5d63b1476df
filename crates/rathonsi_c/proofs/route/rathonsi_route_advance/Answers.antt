use Rattle.std.proofs.Common.{sym, subst, FitsSigned, w32, rules}
use Rattle.std.proofs.lemmas.Int.{to_z-of_z}
use Rattle.rathonsi_c.specs.declared.TheConstants.{EXHAUSTED}
use Rattle.rathonsi_c.specs.Causes.{IfCause, IsDone}
use Rattle.rathonsi_c.specs.Routes.{LeavesNothing, AdvanceAnswers}
use Rattle.rathonsi_c.proofs.BoundLaws.{weaker_plan}
use Rattle.rathonsi_c.proofs.route.rathonsi_route_advance.Goals as goal

pub returns-in-Err-clause-answer : goal.returns-in-Err-clause-answer
returns-in-Err-clause-answer c =
    let r = c.args.route.now in
    let image = c.args.image.now in
    let status = c.in-Err.status in
    let fits : FitsSigned w32 status = search rules in
    subst (λ s. AdvanceAnswers c.args.route.now c.args.image.now c.args.freshness c.args.plan.now s) (sym (to_z-of_z w32 status fits))
    (weaker_plan r image c.args.plan.now (λ _. ⊥) (IfCause (LeavesNothing r c.args.freshness) EXHAUSTED IsDone) status (λ says. absurd says) c.in-Err.ensures.refused)
