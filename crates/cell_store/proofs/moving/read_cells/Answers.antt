use Rattle.std.proofs.Common.{length}
use Rattle.cell_store.proofs.MovingLaws.{kept_stands}
use Rattle.cell_store.proofs.moving.read_cells.Goals as goal

pub returns-in-Ok-clause-stands : goal.returns-in-Ok-clause-stands
returns-in-Ok-clause-stands g c t told = rw c.in-Log.is (kept_stands c.args.version (length c.args.cells.now) c.read_log.new.cells c.in-Ok.field-0 t.bytes c.requires.few (c.in-Ok.ensures.keeps t told))
