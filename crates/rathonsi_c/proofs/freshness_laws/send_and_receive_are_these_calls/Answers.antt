use Rattle.rathonsi_c.proofs.AnotherLaws.{sent_alone, received_alone}
use Rattle.rathonsi_c.proofs.freshness_laws.send_and_receive_are_these_calls.Goals as goal

pub returns-clause-sent : goal.returns-clause-sent
returns-clause-sent c = λ r image payload status told own u fits h k. sent_alone r image payload status told own u fits h k

pub returns-clause-received : goal.returns-clause-received
returns-clause-received c = λ r image pdu mac bound input v told taken own u kept covers agrees first second third. received_alone r image pdu mac bound input v told taken own u kept covers agrees first second third
