use Rattle.counter_answers.proofs.AnsweringLaws.{length-answer_input, no_pdu, no_update, no_boot}
use Rattle.counter_answers.proofs.laws.an_answer_input_is_no_other.Goals as goal

pub returns-clause-length : goal.returns-clause-length
returns-clause-length c = λ q counter h. length-answer_input q counter h

pub returns-clause-pdu : goal.returns-clause-pdu
returns-clause-pdu c = λ q counter id payload freshness h p. no_pdu q counter id payload freshness h p

pub returns-clause-update : goal.returns-clause-update
returns-clause-update c = λ q counter message h few. no_update q counter message h few

pub returns-clause-boot : goal.returns-clause-boot
returns-clause-boot c = λ q counter rest. no_boot q counter rest
