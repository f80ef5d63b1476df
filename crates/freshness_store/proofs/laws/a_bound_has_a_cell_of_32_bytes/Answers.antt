use Rattle.freshness_store.proofs.CellLaws.{cell_bytes}
use Rattle.freshness_store.proofs.laws.a_bound_has_a_cell_of_32_bytes.Goals as goal

pub returns : goal.returns
returns c = cell_bytes
