use Rattle.pdu_collection.proofs.Rising.{all_rise}
use Rattle.pdu_collection.proofs.laws.accepted_freshness_rises.Goals as goal

pub returns : goal.returns
returns c = λ head entries arrivals said. all_rise head entries arrivals said
