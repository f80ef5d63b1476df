use Rattle.std.proofs.Common.{◌≡◌, ℕ, inl, inr, length, refl, sym, ap, subst, ◌∙◌, rules}
use Rattle.std.proofs.lemmas.Bool.{true≢false}
use Rattle.freshness_routes.specs.declared.routes.Direction.TheVariants.{Receives}
use Rattle.secured_pdu.specs.Judged.{outcome_of}
use Rattle.rathonsi_c.specs.declared.secoc.RathonsiVerdict.{RathonsiVerdict}
use Rattle.rathonsi_c.specs.Routes.{no_verdict}
use Rattle.secured_pdu.specs.Frame.{Ahead}
use Rattle.rathonsi_c.specs.declared.TheConstants.{BAD_VALUE, FRESHNESS_FAILURE}
use Rattle.rathonsi_c.specs.Causes.{IfCause}
use Rattle.rathonsi_c.specs.Steps.{ReceiveMacAnswers, NoCandidate, CandidateOf, JudgesBy}
use Rattle.rathonsi_c.proofs.BoundLaws.{told_bound, bounded_rest}
use Rattle.rathonsi_c.proofs.InputLaws.{none_ahead, candidate_is, covers_pdu, covers_parts, judged_by}
use Rattle.rathonsi_c.proofs.steps.rathonsi_receive_mac.Goals as goal

pub returns-in-Err-clause-answer : goal.returns-in-Err-clause-answer
returns-in-Err-clause-answer c =
    let r = c.args.route.now in
    let parts = c.in-Some.parts in
    let long : length parts.tag ≡ 3 = search rules in
    subst (λ (v : RathonsiVerdict). ReceiveMacAnswers c.args.route.now c.args.image.now c.args.pdu.now c.args.input.now c.args.mac.now v) (sym (c.refusal-in-Err.ensures.value ∙ ap no_verdict (search rules))) (inr (
      (λ out. out c.in-Some.ensures.found),
      inr (
        c.if-route-eq1.false,
        told_bound no_verdict r Receives c.args.image.now (IfCause ((freshness : ℕ) → ¬ Ahead r.counter r.window parts.low freshness) FRESHNESS_FAILURE (λ x. ⊥)) (IfCause (NoCandidate r c.args.pdu.now) (no_verdict FRESHNESS_FAILURE) (IfCause (¬ CandidateOf r c.args.pdu.now c.args.input.now) (no_verdict BAD_VALUE) (JudgesBy r c.args.image.now c.args.pdu.now c.args.mac.now))) c.in-Err.status (λ says. elim says [
          | inl (none, e) ↦ inl (none_ahead c.args.pdu.now parts.payload.now parts.low parts.tag c.in-Some.ensures.parts long r none, ap no_verdict e)
          | inr (some, never) ↦ absurd never
        ]) c.in-Err.ensures.refused,
      ),
    ))

pub returns-then-not-is_input-clause-answer : goal.returns-then-not-is_input-clause-answer
returns-then-not-is_input-clause-answer c =
    let r = c.args.route.now in
    let pdu = c.args.pdu.now in
    let parts = c.in-Some.parts in
    let found = c.in-Ok.found in
    let long : length parts.tag ≡ 3 = search rules in
    let small = c.in-Ok.ensures.in_use.ranges.window_is.1 in
    let one = candidate_is pdu parts.payload.now parts.low parts.tag c.in-Some.ensures.parts long r found.freshness c.in-Some.ensures.found c.in-Ok.ensures.ahead in
    subst (λ (v : RathonsiVerdict). ReceiveMacAnswers c.args.route.now c.args.image.now c.args.pdu.now c.args.input.now c.args.mac.now v) (sym c.refusal-then-not-is_input.ensures.value) (inr (
      (λ out. out c.in-Some.ensures.found),
      inr (
        c.if-route-eq1.false,
        bounded_rest no_verdict r Receives c.args.image.now found.bound (IfCause (NoCandidate r pdu) (no_verdict FRESHNESS_FAILURE) (IfCause (¬ CandidateOf r pdu c.args.input.now) (no_verdict BAD_VALUE) (JudgesBy r c.args.image.now pdu c.args.mac.now))) (no_verdict BAD_VALUE) c.in-Ok.ensures.in_use c.in-Ok.ensures.kept (inr (
          (λ none. none found.freshness one),
          inl (
            (λ covers. true≢false (sym (c.is_input.ensures.1 (covers_parts pdu parts.payload.now parts.low parts.tag c.in-Some.ensures.parts long r found.freshness c.args.input.now small c.in-Ok.ensures.ahead covers)) ∙ c.if-not-is_input.true)),
            refl,
          ),
        )),
      ),
    ))

pub returns-then-verdict-eq-OK-clause-answer : goal.returns-then-verdict-eq-OK-clause-answer
returns-then-verdict-eq-OK-clause-answer c =
    let r = c.args.route.now in
    let pdu = c.args.pdu.now in
    let mac = c.args.mac.now in
    let parts = c.in-Some.parts in
    let found = c.in-Ok.found in
    let says = c.judge_by.result in
    let long : length parts.tag ≡ 3 = search rules in
    let one = candidate_is pdu parts.payload.now parts.low parts.tag c.in-Some.ensures.parts long r found.freshness c.in-Some.ensures.found c.in-Ok.ensures.ahead in
    let covers = covers_pdu pdu parts.payload.now parts.low parts.tag c.in-Some.ensures.parts long r found.freshness c.args.input.now c.in-Some.ensures.found c.in-Ok.ensures.ahead (c.is_input.ensures.0 c.if-not-is_input.false) in
    inr (
      (λ out. out c.in-Some.ensures.found),
      inr (
        c.if-route-eq1.false,
        bounded_rest no_verdict r Receives c.args.image.now found.bound (IfCause (NoCandidate r pdu) (no_verdict FRESHNESS_FAILURE) (IfCause (¬ CandidateOf r pdu c.args.input.now) (no_verdict BAD_VALUE) (JudgesBy r c.args.image.now pdu c.args.mac.now))) c.answer-verdict.result c.in-Ok.ensures.in_use c.in-Ok.ensures.kept (inr (
          (λ none. none found.freshness one),
          inr (
            (λ other. other covers),
            record {
              bound = found.bound;
              kept = c.in-Ok.ensures.kept;
              freshness = found.freshness;
              candidate = one;
              outcome = outcome_of parts.payload.now says;
              judged = judged_by pdu parts.payload.now parts.low parts.tag c.in-Some.ensures.parts long mac found.freshness says c.judge_by.ensures;
              is = c.answer-verdict.ensures;
            },
          ),
        )),
      ),
    )

pub returns-else-verdict-eq-OK-clause-answer : goal.returns-else-verdict-eq-OK-clause-answer
returns-else-verdict-eq-OK-clause-answer c =
    let r = c.args.route.now in
    let pdu = c.args.pdu.now in
    let mac = c.args.mac.now in
    let parts = c.in-Some.parts in
    let found = c.in-Ok.found in
    let says = c.judge_by.result in
    let long : length parts.tag ≡ 3 = search rules in
    let one = candidate_is pdu parts.payload.now parts.low parts.tag c.in-Some.ensures.parts long r found.freshness c.in-Some.ensures.found c.in-Ok.ensures.ahead in
    let covers = covers_pdu pdu parts.payload.now parts.low parts.tag c.in-Some.ensures.parts long r found.freshness c.args.input.now c.in-Some.ensures.found c.in-Ok.ensures.ahead (c.is_input.ensures.0 c.if-not-is_input.false) in
    inr (
      (λ out. out c.in-Some.ensures.found),
      inr (
        c.if-route-eq1.false,
        bounded_rest no_verdict r Receives c.args.image.now found.bound (IfCause (NoCandidate r pdu) (no_verdict FRESHNESS_FAILURE) (IfCause (¬ CandidateOf r pdu c.args.input.now) (no_verdict BAD_VALUE) (JudgesBy r c.args.image.now pdu c.args.mac.now))) c.answer-verdict.result c.in-Ok.ensures.in_use c.in-Ok.ensures.kept (inr (
          (λ none. none found.freshness one),
          inr (
            (λ other. other covers),
            record {
              bound = found.bound;
              kept = c.in-Ok.ensures.kept;
              freshness = found.freshness;
              candidate = one;
              outcome = outcome_of parts.payload.now says;
              judged = judged_by pdu parts.payload.now parts.low parts.tag c.in-Some.ensures.parts long mac found.freshness says c.judge_by.ensures;
              is = c.answer-verdict.ensures;
            },
          ),
        )),
      ),
    )
