use Rattle.pdu_collection.proofs.MadePdus as of
use Rattle.pdu_collection.proofs.laws.made_pdus_are_judged_as_one.Goals as goal

pub returns-clause-payload_first : goal.returns-clause-payload_first
returns-clause-payload_first c = λ head before earlier counter freshness payload part said makes.
    of.payload_first head before earlier counter freshness payload part said makes

pub returns-clause-part_first : goal.returns-clause-part_first
returns-clause-part_first c = λ head before earlier counter freshness payload part said makes.
    of.part_first head before earlier counter freshness payload part said makes
