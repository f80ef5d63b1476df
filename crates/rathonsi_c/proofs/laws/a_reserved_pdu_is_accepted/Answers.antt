use Rattle.rathonsi_c.proofs.ReservedLaws.{accepted_then}
use Rattle.rathonsi_c.proofs.laws.a_reserved_pdu_is_accepted.Goals as goal

pub returns : goal.returns
returns c = λ r image next pdu first second old plan done answers is reserved finished again. accepted_then r image next pdu first second old plan done answers is reserved finished again
