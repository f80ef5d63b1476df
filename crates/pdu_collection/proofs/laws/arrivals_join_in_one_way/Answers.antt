use Rattle.pdu_collection.proofs.OneJoining.{same_partners}
use Rattle.pdu_collection.proofs.laws.arrivals_join_in_one_way.Goals as goal

pub returns : goal.returns
returns c = λ place arrivals partners partners'. same_partners place arrivals partners partners'
