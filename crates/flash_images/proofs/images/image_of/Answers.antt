-- The image holds the cells.
use Rattle.std.proofs.Common.{List, ℕ, length, replicate, sym, subst, ◌∙◌, arith, rules}
use Rattle.cell_store.specs.declared.kinds.Version.TheVariants.{One}
use Rattle.cell_store.specs.Layout.{twin_layout}
use Rattle.cell_store.specs.Store.{HasHeader}
use Rattle.flash_images.proofs.ImageLaws.{one_more_held, made_head, fresh_head}
use Rattle.flash_images.proofs.images.image_of.Goals as goal

pub loop-cell-init : goal.loop-cell-init
loop-cell-init c = record {
  size = c.make.auto.image ∙ c.requires.size;
  head = fresh_head (length c.args.cells.now) (replicate 32 0) c.make.new.image c.make.ensures;
  first = λ i below. absurd (omega arith);
}

pub loop-cell-preserved : goal.loop-cell-preserved
loop-cell-preserved c =
    let v = c.loop-cell.invariant in
    record {
      size = c.make_cell.auto.image ∙ v.size;
      head = subst (λ (y : List ℕ). HasHeader (twin_layout One) (length c.args.cells.now) y) (sym c.make_cell.ensures.made)
          (made_head c.loop-cell.image (length c.args.cells.now) c.loop-cell.cell _ (search rules) (let t = c.loop-cell-test.true in let s = v.size in omega (arith, s)) v.head);
      first = one_more_held c.loop-cell.image c.make_cell.new.image c.args.cells.now c.loop-cell.cell v.first c.make_cell.ensures.cell
          c.make_cell.ensures.others;
    }

pub returns : goal.returns
returns c = record {
  size = c.loop-cell.invariant.size;
  head = c.loop-cell.invariant.head;
  held = λ i below. c.loop-cell.invariant.first i (let t = c.loop-cell-test.false in omega arith);
}
