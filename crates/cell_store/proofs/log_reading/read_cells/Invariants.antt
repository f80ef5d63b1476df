-- The cells before i are read.
use Rattle.std.proofs.Common.{length}
use Rattle.cell_store.proofs.LogReadingLaws.{ReadCellsSoFar}
use Rattle.cell_store.proofs.log_reading.read_cells.Given as goal

abbrev pub invariant-loop-i : goal.invariant-loop-i
invariant-loop-i g l = ReadCellsSoFar l.fn.version (length l.fn.cells) l.fn.side l.i l.cells (g.D.Disk.state l.fn.disk) (g.D.Disk.state l.disk)
