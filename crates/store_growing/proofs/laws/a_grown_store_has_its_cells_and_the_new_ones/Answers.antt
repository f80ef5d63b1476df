use Rattle.store_growing.proofs.RoutesKept.{has_new_ones}
use Rattle.store_growing.proofs.laws.a_grown_store_has_its_cells_and_the_new_ones.Goals as goal

pub returns : goal.returns
returns c = has_new_ones
