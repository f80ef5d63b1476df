use Rattle.counter_answers.proofs.AnsweringLaws.{one_counter_told}
use Rattle.counter_answers.proofs.laws.an_answer_tells_one_counter.Goals as goal

pub returns : goal.returns
returns c = λ mac mac' counter counter' answer t s. one_counter_told mac mac' counter counter' answer t s
