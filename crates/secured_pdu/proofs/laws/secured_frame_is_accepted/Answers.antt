use Rattle.secured_pdu.proofs.VerdictLaws.{Verdict_of_secured}
use Rattle.secured_pdu.proofs.laws.secured_frame_is_accepted.Goals as goal

pub returns : goal.returns
returns c = Verdict_of_secured
