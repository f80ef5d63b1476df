use Rattle.std.proofs.Common.{length}
use Rattle.cell_store.proofs.ReadingLaws.{ReadSoFar}
use Rattle.cell_store.proofs.reading.read_store.Given as goal

-- the header and the cells before i are read
abbrev pub invariant-loop-i : goal.invariant-loop-i
invariant-loop-i g l = ReadSoFar l.fn.version (length l.fn.held) l.i l.held (g.D.Disk.state l.fn.disk) (g.D.Disk.state l.disk)
