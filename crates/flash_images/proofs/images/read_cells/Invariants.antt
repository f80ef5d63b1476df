-- So many cells are read.
use Rattle.std.proofs.Common.{◌≡◌, length}
use Rattle.flash_images.proofs.ImageLaws.{HoldsFirst}
use Rattle.flash_images.proofs.images.read_cells.Given as goal

abbrev pub invariant-loop-cell : goal.invariant-loop-cell
invariant-loop-cell l = record {
  count : length l.cells ≡ length l.fn.cells;
  first : HoldsFirst l.image l.cells l.cell;
}
