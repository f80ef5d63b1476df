use Rattle.secured_pdu.proofs.CallerLemmas.{length-input}
use Rattle.secured_pdu.specs.Verdict.{payload_of}
use Rattle.rathonsi_c.proofs.StepLaws.{received_in_steps}
use Rattle.rathonsi_c.proofs.step_laws.a_receive_is_two_steps.Goals as goal

pub returns : goal.returns
returns c = λ r image pdu key bound input one two ready covers first second.
    received_in_steps r image pdu key bound input one two ready covers (length-input r.data_id (payload_of pdu) input.freshness) first second
