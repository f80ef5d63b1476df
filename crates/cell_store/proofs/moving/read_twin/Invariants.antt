use Rattle.std.proofs.Common.{length}
use Rattle.cell_store.proofs.MovingLaws.{PayloadsSoFar}
use Rattle.cell_store.proofs.moving.read_twin.Given as goal

-- the header and the cells before i are read
abbrev pub invariant-loop-i : goal.invariant-loop-i
invariant-loop-i g l = PayloadsSoFar l.fn.version (length l.fn.cells) l.i l.cells (g.D.Disk.state l.fn.disk) (g.D.Disk.state l.disk)
