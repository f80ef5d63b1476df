use Rattle.std.proofs.Common.{ℕ, sym, subst, FitsSigned, w32, rules}
use Rattle.std.proofs.lemmas.Int.{to_z-of_z}
use Rattle.freshness_routes.specs.declared.routes.Direction.TheVariants.{Receives}
use Rattle.secured_pdu.specs.Frame.{Ahead}
use Rattle.rathonsi_c.specs.declared.TheConstants.{FRESHNESS_FAILURE}
use Rattle.rathonsi_c.specs.Causes.{IfCause}
use Rattle.rathonsi_c.specs.Routes.{status_alone}
use Rattle.rathonsi_c.specs.Steps.{CandidateRefused}
use Rattle.rathonsi_c.proofs.BoundLaws.{weaker_rest}
use Rattle.rathonsi_c.proofs.steps.candidate_on.Goals as goal

pub returns-in-Err-clause-refused : goal.returns-in-Err-clause-refused
returns-in-Err-clause-refused c =
    let r = c.args.route.now in
    let low = c.args.parts.now.low in
    let status = c.in-Err.status in
    let fits : FitsSigned w32 status = search rules in
    subst (λ s. CandidateRefused c.args.route.now c.args.image.now c.args.parts.now.low s) (sym (to_z-of_z w32 status fits))
    (weaker_rest status_alone r Receives c.args.image.now (λ _. ⊥) (IfCause ((freshness : ℕ) → ¬ Ahead r.counter r.window low freshness) FRESHNESS_FAILURE (λ _. ⊥)) status (λ says. absurd says) c.in-Err.ensures.refused)
