use Rattle.std.proofs.Common.{ℕ, inr, refl, rules, sym, subst, FitsSigned, w32}
use Rattle.freshness_routes.specs.declared.routes.Direction.TheVariants.{Receives}
use Rattle.secured_pdu.specs.Frame.{AheadWithBits, TakesBits}
use Rattle.rathonsi_c.specs.declared.TheConstants.{FRESHNESS_FAILURE, RESERVE}
use Rattle.rathonsi_c.specs.Causes.{IfCause, IsDone}
use Rattle.rathonsi_c.specs.Routes.{status_alone}
use Rattle.rathonsi_c.specs.Freshness.{AheadOfBound, CandidateAnswers}
use Rattle.rathonsi_c.proofs.BoundLaws.{bounded_rest, weaker_rest}
use Rattle.rathonsi_c.proofs.FreshnessLaws.{candidate_covered}
use Rattle.std.proofs.lemmas.Int.{to_z-of_z}
use Rattle.rathonsi_c.proofs.freshness.rathonsi_freshness_candidate.Goals as goal

pub returns-else-found-bound-clause-answer : goal.returns-else-found-bound-clause-answer
returns-else-found-bound-clause-answer c =
    let r = c.args.route.now in
    let image = c.args.image.now in
    let bits = c.args.bits in
    let truncated = c.args.truncated in
    let takes : TakesBits r.window bits truncated = c.takes_bits.ensures.0 c.if-not-takes_bits.false in
    let kept = c.in-Ok.ensures.kept in
    let ahead = c.in-Some.ensures.ahead in
    inr (
      (λ other. other c.if-route-ne1.false),
      inr (
        (λ other. other takes),
        bounded_rest status_alone r Receives image c.in-Ok.bound (IfCause ((freshness : ℕ) → ¬ AheadWithBits r.counter r.window bits truncated freshness) FRESHNESS_FAILURE (IfCause (AheadOfBound r image bits truncated) RESERVE IsDone)) _ c.in-Ok.ensures.in_use kept (inr (
          (λ none. none c.in-Some.found ahead),
          inr ((λ over. candidate_covered r image bits truncated c.in-Ok.bound c.in-Some.found takes.window_fits ahead kept (search rules) over), refl),
        )),
      ),
    )

pub returns-in-Err-clause-answer : goal.returns-in-Err-clause-answer
returns-in-Err-clause-answer c =
    let r = c.args.route.now in
    let bits = c.args.bits in
    let truncated = c.args.truncated in
    let status = c.in-Err.status in
    let fits : FitsSigned w32 status = search rules in
    let takes : TakesBits r.window bits truncated = c.takes_bits.ensures.0 c.if-not-takes_bits.false in
    subst (λ s. CandidateAnswers c.args.route.now c.args.image.now c.args.truncated c.args.bits s) (sym (to_z-of_z w32 status fits)) (inr (
      (λ other. other c.if-route-ne1.false),
      inr (
        (λ other. other takes),
        weaker_rest status_alone r Receives c.args.image.now (λ _. ⊥) (IfCause ((freshness : ℕ) → ¬ AheadWithBits r.counter r.window bits truncated freshness) FRESHNESS_FAILURE (IfCause (AheadOfBound r c.args.image.now bits truncated) RESERVE IsDone)) status (λ says. absurd says) c.in-Err.ensures.refused,
      ),
    ))
