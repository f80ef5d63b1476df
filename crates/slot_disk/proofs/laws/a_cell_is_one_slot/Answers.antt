use Rattle.slot_disk.proofs.CellLaws.{one_slot, one_list}
use Rattle.slot_disk.proofs.laws.a_cell_is_one_slot.Goals as goal

pub returns-clause-cell : goal.returns-clause-cell
returns-clause-cell c = one_slot

pub returns-clause-cells : goal.returns-clause-cells
returns-clause-cells c = one_list
