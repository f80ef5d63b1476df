use Rattle.freshness_store.proofs.CellLaws.{one_bound}
use Rattle.freshness_store.proofs.laws.a_cell_is_one_bound.Goals as goal

pub returns : goal.returns
returns c = one_bound
