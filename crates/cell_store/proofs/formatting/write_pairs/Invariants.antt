-- So many of the cells are written, and nothing else.
use Rattle.std.proofs.Common.{◌≡◌, ◌+◌, ◌*◌, length}
use Rattle.cell_store.specs.Layout.{base}
use Rattle.cell_store.specs.Writing.{LeavesOutside}
use Rattle.cell_store.proofs.FormatLaws.{PairsSoFar}
use Rattle.cell_store.proofs.formatting.write_pairs.Given as goal

abbrev pub invariant-loop-cell : goal.invariant-loop-cell
invariant-loop-cell g l = record {
  faults : (g.D.Disk.state l.disk).faults ≡ (g.D.Disk.state l.initial.disk).faults;
  so_far : PairsSoFar l.fn.version l.cells l.cell (g.D.Disk.state l.initial.disk) (g.D.Disk.state l.disk);
  outside : LeavesOutside (base l.fn.version + 32) (68 * length l.cells) (g.D.Disk.state l.initial.disk).told (g.D.Disk.state l.disk).told;
}
