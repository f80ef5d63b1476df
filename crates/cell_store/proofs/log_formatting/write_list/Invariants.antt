-- So many of the cells are written.
use Rattle.std.proofs.Common.{◌*◌, length, take}
use Rattle.std.specs.List.{flat_map}
use Rattle.cell_store.proofs.WroteLaws.{ChunksSoFar}
use Rattle.cell_store.proofs.log_formatting.write_list.Given as goal

abbrev pub invariant-loop-cell : goal.invariant-loop-cell
invariant-loop-cell g l = ChunksSoFar l.fn.at (32 * length l.cells) (flat_map (λ c. c) (take l.cell l.cells)) l.cell (g.D.Disk.state l.initial.disk) (g.D.Disk.state l.disk)
