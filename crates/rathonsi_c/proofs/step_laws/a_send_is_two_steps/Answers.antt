use Rattle.secured_pdu.proofs.CallerLemmas.{length-input}
use Rattle.rathonsi_c.proofs.StepLaws.{sent_in_steps}
use Rattle.rathonsi_c.proofs.step_laws.a_send_is_two_steps.Goals as goal

pub returns : goal.returns
returns c = λ r image payload key pdu input p k i s.
    sent_in_steps r image payload key pdu input (length-input r.data_id payload _) p k i s
