use Rattle.counter_answers.proofs.AnsweringLaws.{same_from_answer_input}
use Rattle.counter_answers.proofs.laws.an_answer_input_is_one_to_one.Goals as goal

pub returns : goal.returns
returns c = λ q p counter other hq hp fits fits' e. same_from_answer_input q p counter other hq hp fits fits' e
