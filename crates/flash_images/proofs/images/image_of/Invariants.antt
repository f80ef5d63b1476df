-- So many cells are made.
use Rattle.std.proofs.Common.{◌≡◌, length}
use Rattle.cell_store.specs.declared.kinds.Version.TheVariants.{One}
use Rattle.cell_store.specs.Layout.{twin_layout}
use Rattle.cell_store.specs.Twin.{twin_size}
use Rattle.cell_store.specs.Store.{HasHeader}
use Rattle.flash_images.proofs.ImageLaws.{HoldsFirst}
use Rattle.flash_images.proofs.images.image_of.Given as goal

abbrev pub invariant-loop-cell : goal.invariant-loop-cell
invariant-loop-cell l = record {
  size : length l.image ≡ twin_size (length l.cells);
  head : HasHeader (twin_layout One) (length l.cells) l.image;
  first : HoldsFirst l.image l.cells l.cell;
}
