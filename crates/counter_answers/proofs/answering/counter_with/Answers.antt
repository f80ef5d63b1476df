use Rattle.std.proofs.Common.{ℕ, sym, ap, ◌∙◌}
use Rattle.std.proofs.lemmas.Bool.{false≢true}
use Rattle.std.proofs.lemmas.Slice.Eq.{bytes_eq-Decides}
use Rattle.counter_answers.specs.Answering.{answer_of}
use Rattle.counter_answers.proofs.AnsweringLaws.{first_is}
use Rattle.counter_answers.proofs.answering.counter_with.Goals as goal

-- an answer with this MAC tells the counter that was read, and was made anew
pub returns-else-eq-clause-none : goal.returns-else-eq-clause-none
returns-else-eq-clause-none c = λ n t.
    let mac = c.args.mac.now in
    let answer = c.args.answer.now in
    let read = c.counter_of-counter.ensures ∙ first_is mac n answer t in
    let made = c.answer_with.ensures ∙ (ap (λ (m : ℕ). answer_of m mac) read ∙ sym t.answer_is) in
    false≢true (sym c.if-eq.false ∙ (c.eq.ensures ∙ (bytes_eq-Decides c.answer_with.result answer).1 made))
