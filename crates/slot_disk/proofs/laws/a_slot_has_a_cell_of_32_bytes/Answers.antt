use Rattle.slot_disk.proofs.CellLaws.{cell_bytes}
use Rattle.slot_disk.proofs.laws.a_slot_has_a_cell_of_32_bytes.Goals as goal

pub returns : goal.returns
returns c = cell_bytes
