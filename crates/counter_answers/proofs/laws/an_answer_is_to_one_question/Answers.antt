use Rattle.counter_answers.proofs.AnsweringLaws.{one_question}
use Rattle.counter_answers.proofs.laws.an_answer_is_to_one_question.Goals as goal

pub returns : goal.returns
returns c = λ key q p counter other answer hq hp t s apart. one_question key q p counter other answer hq hp t s apart
