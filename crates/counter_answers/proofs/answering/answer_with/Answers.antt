use Rattle.std.proofs.Common.{List, ℕ, ◌++◌, sym, ap, ◌∙◌, arith}
use Rattle.std.proofs.lemmas.List.{take_all}
use Rattle.std.specs.Int.{w64}
use Rattle.basics.proofs.CallerLemmas.{to_be_bytes-is}
use Rattle.counter_answers.specs.Answering.{answer_of}
use Rattle.counter_answers.proofs.answering.answer_with.Goals as goal

-- the array has 24 bytes, and all of them are written
pub returns : goal.returns
unfolding answer_of
returns c =
    let counter_is = c.append-after_counter.ensures.front ∙ c.to_be_bytes.ensures ∙ to_be_bytes-is w64 c.args.counter in
    let all_is = c.append.ensures.front ∙ ap (λ (l : List ℕ). l ++ c.args.mac.now) counter_is in
    sym (take_all c.append.result c.append.new.out (omega arith)) ∙ all_is
