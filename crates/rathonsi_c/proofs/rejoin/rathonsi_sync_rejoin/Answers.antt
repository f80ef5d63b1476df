use Rattle.std.proofs.Common.{List, ℕ, sym, ap, subst, ◌∙◌, rules}
use Rattle.she_cmac.specs.Cmac.{cmac}
use Rattle.counter_answers.specs.Answering.{answer_input}
use Rattle.counter_answers.specs.declared.answering.CounterQuestion.{CounterQuestion}
use Rattle.rathonsi_c.specs.declared.secoc.RathonsiVerdict.{RathonsiVerdict}
use Rattle.rathonsi_c.specs.Routes.{no_verdict}
use Rattle.rathonsi_c.specs.Rejoining.{RejoinAnswers}
use Rattle.rathonsi_c.specs.Syncing.{asked_by}
use Rattle.rathonsi_c.proofs.RejoinLaws.{rejoined_by}
use Rattle.rathonsi_c.proofs.SyncLaws.{judged_rejoin, refused_rejoin}
use Rattle.rathonsi_c.proofs.rejoin.rathonsi_sync_rejoin.Goals as goal

pub returns-in-Err-clause-answer : goal.returns-in-Err-clause-answer
returns-in-Err-clause-answer c =
    let r = c.args.route.now in
    let image = c.args.image.now in
    subst (λ (v : RathonsiVerdict). RejoinAnswers c.args.route.now c.args.image.now c.args.question.now c.args.answer.now v)
    (sym (c.refusal-in-Err.ensures.value ∙ ap no_verdict (search rules)))
    (refused_rejoin r image c.args.answer.now c.args.question.now c.in-Err.refusal c.if-question.false c.in-Err.ensures.refused)

pub returns-then-verdict-eq-OK-clause-answer : goal.returns-then-verdict-eq-OK-clause-answer
returns-then-verdict-eq-OK-clause-answer c =
    let r = c.args.route.now in
    let image = c.args.image.now in
    let q = c.args.question.now in
    let key = c.in-Ok.ready.key in
    let input_is = c.answer_input-input.ensures ∙ (ap (λ (p : CounterQuestion). answer_input p c.counter_of.result) c.asking.ensures ∙ ap (λ (n : ℕ). answer_input (asked_by r q) n) c.counter_of.ensures) in
    let mac_is = c.bytes.ensures.value ∙ (c.cmac-mac.ensures.value ∙ (ap (λ (k : List ℕ). cmac k c.answer_input-input.result) c.expand.ensures.value ∙ ap (λ (l : List ℕ). cmac key l) input_is)) in
    judged_rejoin r image c.args.answer.now key c.bytes.result.now q c.in-Ok.ready.bound c.counter_with.result c.rejoin_on-verdict.result c.if-question.false c.in-Ok.ensures.ready mac_is c.counter_with.ensures.none c.counter_with.ensures.some c.rejoin_on-verdict.ensures

pub returns-else-verdict-eq-OK-clause-answer : goal.returns-else-verdict-eq-OK-clause-answer
returns-else-verdict-eq-OK-clause-answer c =
    let r = c.args.route.now in
    let image = c.args.image.now in
    let q = c.args.question.now in
    let key = c.in-Ok.ready.key in
    let input_is = c.answer_input-input.ensures ∙ (ap (λ (p : CounterQuestion). answer_input p c.counter_of.result) c.asking.ensures ∙ ap (λ (n : ℕ). answer_input (asked_by r q) n) c.counter_of.ensures) in
    let mac_is = c.bytes.ensures.value ∙ (c.cmac-mac.ensures.value ∙ (ap (λ (k : List ℕ). cmac k c.answer_input-input.result) c.expand.ensures.value ∙ ap (λ (l : List ℕ). cmac key l) input_is)) in
    judged_rejoin r image c.args.answer.now key c.bytes.result.now q c.in-Ok.ready.bound c.counter_with.result c.rejoin_on-verdict.result c.if-question.false c.in-Ok.ensures.ready mac_is c.counter_with.ensures.none c.counter_with.ensures.some c.rejoin_on-verdict.ensures

pub returns-then-verdict-eq-OK-clause-rejoined : goal.returns-then-verdict-eq-OK-clause-rejoined
returns-then-verdict-eq-OK-clause-rejoined c = λ ok.
    let ready = c.in-Ok.ensures.ready in
    rejoined_by c.args.route.now c.args.image.now c.in-Ok.ready.bound c.counter_with.result c.rejoin_on-verdict.result _ ready.ranges ready.opened ready.kept c.rejoin_on-verdict.ensures ok c.move_counter.ensures
