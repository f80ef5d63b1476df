use Rattle.store_growing.proofs.RoutesKept.{can_grow_again}
use Rattle.store_growing.proofs.laws.a_cut_store_can_grow.Goals as goal

pub returns : goal.returns
returns c = can_grow_again
