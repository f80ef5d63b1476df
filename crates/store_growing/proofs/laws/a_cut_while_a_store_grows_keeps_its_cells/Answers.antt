use Rattle.store_growing.proofs.RoutesKept.{held_stays}
use Rattle.store_growing.proofs.laws.a_cut_while_a_store_grows_keeps_its_cells.Goals as goal

pub returns : goal.returns
returns c = held_stays
