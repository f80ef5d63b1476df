use Rattle.std.proofs.Common.{◌∷◌, ◌++◌, inr, sym, ap, subst, ◌∙◌, rules}
use Rattle.freshness_routes.specs.declared.routes.Direction.TheVariants.{Receives}
use Rattle.secured_pdu.specs.Judged.{outcome_of}
use Rattle.rathonsi_c.specs.declared.secoc.RathonsiVerdict.{RathonsiVerdict}
use Rattle.rathonsi_c.specs.Routes.{RouteAnswers, JudgesPdu, no_verdict}
use Rattle.rathonsi_c.proofs.AnswerLaws.{refused_route, judged_route, same_verdict}
use Rattle.rathonsi_c.proofs.route.rathonsi_route_receive.Goals as goal

pub returns-in-Err-clause-answer : goal.returns-in-Err-clause-answer
returns-in-Err-clause-answer c =
    let r = c.args.route.now in
    let image = c.args.image.now in
    let pdu = c.args.pdu.now in
    inr (
      (λ out. out c.in-Some.ensures.found),
      inr (
        c.if-route-eq1.false,
        subst (λ (v : RathonsiVerdict). RouteAnswers no_verdict c.args.route.now Receives c.args.image.now (JudgesPdu c.args.route.now c.args.image.now c.args.pdu.now) v) (sym (c.refusal-in-Err.ensures.value ∙ ap no_verdict (search rules)))
            (refused_route no_verdict r Receives image (JudgesPdu r image pdu) c.in-Err.refusal c.in-Err.ensures.refused),
      ),
    )

pub returns-then-verdict-eq-OK-clause-answer : goal.returns-then-verdict-eq-OK-clause-answer
returns-then-verdict-eq-OK-clause-answer c =
    let r = c.args.route.now in
    let outcome = outcome_of c.in-Some.parts.payload.now c.judge-judgement.result in
    let frame = c.in-Some.parts.payload.now ++ c.in-Some.parts.low ∷ c.in-Some.parts.tag in
    judged_route r c.args.image.now c.args.pdu.now c.in-Ok.found.key c.in-Ok.found.bound outcome c.answer-verdict.result c.in-Some.ensures.found c.if-route-eq1.false c.in-Ok.ensures.ready
    (same_verdict c.in-Ok.found.key c.expand.result r.data_id r.counter r.window c.args.pdu.now frame outcome c.expand.ensures.value c.in-Some.ensures.parts c.judge-judgement.ensures) c.answer-verdict.ensures

pub returns-else-verdict-eq-OK-clause-answer : goal.returns-else-verdict-eq-OK-clause-answer
returns-else-verdict-eq-OK-clause-answer c =
    let r = c.args.route.now in
    let outcome = outcome_of c.in-Some.parts.payload.now c.judge-judgement.result in
    let frame = c.in-Some.parts.payload.now ++ c.in-Some.parts.low ∷ c.in-Some.parts.tag in
    judged_route r c.args.image.now c.args.pdu.now c.in-Ok.found.key c.in-Ok.found.bound outcome c.answer-verdict.result c.in-Some.ensures.found c.if-route-eq1.false c.in-Ok.ensures.ready
    (same_verdict c.in-Ok.found.key c.expand.result r.data_id r.counter r.window c.args.pdu.now frame outcome c.expand.ensures.value c.in-Some.ensures.parts c.judge-judgement.ensures) c.answer-verdict.ensures
