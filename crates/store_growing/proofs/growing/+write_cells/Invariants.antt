use Rattle.std.proofs.Common.{length}
use Rattle.store_growing.proofs.growing.+write_cells.Given as goal

abbrev pub decreases-write_cells : goal.decreases-write_cells
decreases-write_cells g l = length l.routes.now
