use Rattle.secured_pdu.proofs.FrameLaws.{IsFrame-Secured}
use Rattle.secured_pdu.proofs.laws.a_secured_frame_is_a_frame.Goals as goal

pub returns : goal.returns
returns c = IsFrame-Secured
