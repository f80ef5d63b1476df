-- The cells are those of the image.
use Rattle.std.proofs.Common.{sym, ap, subst, ◌∙◌, arith}
use Rattle.cell_store.specs.declared.kinds.Version.TheVariants.{One}
use Rattle.cell_store.specs.Layout.{twin_layout}
use Rattle.cell_store.specs.Twin.{twin_size}
use Rattle.cell_store.specs.Store.{HasHeader}
use Rattle.flash_images.proofs.images.read_cells.Goals as goal

pub returns : goal.returns
returns c =
    let count = c.loop-cell.invariant.count in
    record {
      size = c.requires.size ∙ ap twin_size (sym count);
      head = subst (λ n. HasHeader (twin_layout One) n c.args.image.now) (sym count) c.requires.head;
      held = λ i below. c.loop-cell.invariant.first i (let t = c.loop-cell-test.false in omega (arith, count));
    }
