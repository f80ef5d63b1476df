use Rattle.std.proofs.Common.{List, ℕ, sym, ap, subst, ◌∙◌, rules}
use Rattle.she_cmac.specs.Cmac.{cmac}
use Rattle.counter_answers.specs.Answering.{answer_input}
use Rattle.counter_answers.specs.declared.answering.CounterQuestion.{CounterQuestion}
use Rattle.freshness_routes.specs.declared.routes.Direction.{Direction}
use Rattle.rathonsi_c.specs.declared.secoc.RathonsiVerdict.{RathonsiVerdict}
use Rattle.rathonsi_c.specs.Refused.{RouteRefused}
use Rattle.rathonsi_c.specs.Routes.{RouteReady, no_verdict}
use Rattle.rathonsi_c.specs.Syncing.{SyncTakeAnswers, asked_by}
use Rattle.rathonsi_c.proofs.SyncLaws.{judged_sync, refused_sync}
use Rattle.rathonsi_c.proofs.sync.rathonsi_sync_take.Goals as goal

pub returns-in-Err-clause-answer : goal.returns-in-Err-clause-answer
returns-in-Err-clause-answer c =
    let r = c.args.route.now in
    let image = c.args.image.now in
    let refused = subst (λ (d : Direction). RouteRefused r d image c.in-Err.refusal) c.way.ensures c.in-Err.ensures.refused in
    subst (λ (v : RathonsiVerdict). SyncTakeAnswers c.args.route.now c.args.image.now c.args.question.now c.args.answer.now v)
    (sym (c.refusal-in-Err.ensures.value ∙ ap no_verdict (search rules)))
    (refused_sync r image c.args.answer.now c.args.question.now c.in-Err.refusal c.if-question.false refused)

pub returns-then-verdict-eq-OK-clause-answer : goal.returns-then-verdict-eq-OK-clause-answer
returns-then-verdict-eq-OK-clause-answer c =
    let r = c.args.route.now in
    let image = c.args.image.now in
    let q = c.args.question.now in
    let key = c.in-Ok.ready.key in
    let ready = subst (λ (d : Direction). RouteReady r d image key c.in-Ok.ready.bound) c.way.ensures c.in-Ok.ensures.ready in
    let input_is = c.answer_input-input.ensures ∙ (ap (λ (p : CounterQuestion). answer_input p c.counter_of.result) c.asking.ensures ∙ ap (λ (n : ℕ). answer_input (asked_by r q) n) c.counter_of.ensures) in
    let mac_is = c.bytes.ensures.value ∙ (c.cmac-mac.ensures.value ∙ (ap (λ (k : List ℕ). cmac k c.answer_input-input.result) c.expand.ensures.value ∙ ap (λ (l : List ℕ). cmac key l) input_is)) in
    judged_sync r image c.args.answer.now key c.bytes.result.now q c.in-Ok.ready.bound c.counter_with.result c.verdict_on-verdict.result c.if-question.false ready mac_is c.counter_with.ensures.none c.counter_with.ensures.some c.verdict_on-verdict.ensures

pub returns-else-verdict-eq-OK-clause-answer : goal.returns-else-verdict-eq-OK-clause-answer
returns-else-verdict-eq-OK-clause-answer c =
    let r = c.args.route.now in
    let image = c.args.image.now in
    let q = c.args.question.now in
    let key = c.in-Ok.ready.key in
    let ready = subst (λ (d : Direction). RouteReady r d image key c.in-Ok.ready.bound) c.way.ensures c.in-Ok.ensures.ready in
    let input_is = c.answer_input-input.ensures ∙ (ap (λ (p : CounterQuestion). answer_input p c.counter_of.result) c.asking.ensures ∙ ap (λ (n : ℕ). answer_input (asked_by r q) n) c.counter_of.ensures) in
    let mac_is = c.bytes.ensures.value ∙ (c.cmac-mac.ensures.value ∙ (ap (λ (k : List ℕ). cmac k c.answer_input-input.result) c.expand.ensures.value ∙ ap (λ (l : List ℕ). cmac key l) input_is)) in
    judged_sync r image c.args.answer.now key c.bytes.result.now q c.in-Ok.ready.bound c.counter_with.result c.verdict_on-verdict.result c.if-question.false ready mac_is c.counter_with.ensures.none c.counter_with.ensures.some c.verdict_on-verdict.ensures
