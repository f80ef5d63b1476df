use Rattle.std.proofs.Common.{◌≡◌, ℕ, inl, inr, length, sym, subst, FitsSigned, w32, rules}
use Rattle.std.proofs.lemmas.Int.{to_z-of_z}
use Rattle.freshness_routes.specs.declared.routes.Direction.TheVariants.{Receives}
use Rattle.rathonsi_c.specs.Routes.{status_alone}
use Rattle.secured_pdu.specs.Frame.{Ahead}
use Rattle.rathonsi_c.specs.declared.TheConstants.{FRESHNESS_FAILURE}
use Rattle.rathonsi_c.specs.Causes.{IfCause, IsDone}
use Rattle.rathonsi_c.specs.Steps.{ReceiveInputAnswers, NoCandidate}
use Rattle.rathonsi_c.proofs.BoundLaws.{told_bound}
use Rattle.rathonsi_c.proofs.InputLaws.{none_ahead}
use Rattle.rathonsi_c.proofs.steps.rathonsi_receive_input.Goals as goal

pub returns-in-Err-clause-answer : goal.returns-in-Err-clause-answer
returns-in-Err-clause-answer c =
    let r = c.args.route.now in
    let parts = c.in-Some.parts in
    let status = c.in-Err.status in
    let fits : FitsSigned w32 status = search rules in
    let long : length parts.tag ≡ 3 = search rules in
    subst (λ s. ReceiveInputAnswers c.args.route.now c.args.image.now c.args.pdu.now s) (sym (to_z-of_z w32 status fits)) (inr (
      (λ out. out c.in-Some.ensures.found),
      inr (
        c.if-route-eq1.false,
        told_bound status_alone r Receives c.args.image.now (IfCause ((freshness : ℕ) → ¬ Ahead r.counter r.window parts.low freshness) FRESHNESS_FAILURE (λ x. ⊥)) (IfCause (NoCandidate r c.args.pdu.now) FRESHNESS_FAILURE IsDone) status (λ says. elim says [
          | inl (none, e) ↦ inl (none_ahead c.args.pdu.now parts.payload.now parts.low parts.tag c.in-Some.ensures.parts long r none, e)
          | inr (some, never) ↦ absurd never
        ]) c.in-Err.ensures.refused,
      ),
    ))
