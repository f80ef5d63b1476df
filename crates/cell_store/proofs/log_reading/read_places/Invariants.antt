-- The places before p are read.
use Rattle.std.proofs.Common.{length}
use Rattle.cell_store.proofs.LogReadingLaws.{ReadPlacesSoFar}
use Rattle.cell_store.proofs.log_reading.read_places.Given as goal

abbrev pub invariant-loop-p : goal.invariant-loop-p
invariant-loop-p g l = ReadPlacesSoFar l.fn.version (length l.fn.cells) l.fn.side l.p l.used l.cells (g.D.Disk.state l.fn.disk) (g.D.Disk.state l.disk)
