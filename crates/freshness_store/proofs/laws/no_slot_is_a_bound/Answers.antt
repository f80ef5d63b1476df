use Rattle.freshness_store.proofs.CellLaws.{no_slot}
use Rattle.freshness_store.proofs.laws.no_slot_is_a_bound.Goals as goal

pub returns : goal.returns
returns c = no_slot
