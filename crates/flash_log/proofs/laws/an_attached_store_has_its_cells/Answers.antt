use Rattle.flash_log.proofs.PutLaws.{attached_cells}
use Rattle.flash_log.proofs.laws.an_attached_store_has_its_cells.Goals as goal

pub returns : goal.returns
returns c = attached_cells
