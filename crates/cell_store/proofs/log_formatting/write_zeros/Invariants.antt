-- So many times 32 bytes are zero.
use Rattle.std.proofs.Common.{ℕ, ◌*◌, replicate}
use Rattle.cell_store.proofs.WroteLaws.{ChunksSoFar}
use Rattle.cell_store.proofs.log_formatting.write_zeros.Given as goal

abbrev pub invariant-loop-i : goal.invariant-loop-i
invariant-loop-i g l = ChunksSoFar l.fn.at (32 * l.fn.times) (replicate {A = ℕ} (32 * l.i) 0) l.i (g.D.Disk.state l.initial.disk) (g.D.Disk.state l.disk)
