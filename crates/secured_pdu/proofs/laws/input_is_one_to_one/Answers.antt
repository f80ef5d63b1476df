use Rattle.secured_pdu.proofs.FrameLaws.{same_from_authenticated_input}
use Rattle.secured_pdu.proofs.laws.input_is_one_to_one.Goals as goal

pub returns : goal.returns
returns c = λ d d' p p' v v'. same_from_authenticated_input d d' p p' v v'
