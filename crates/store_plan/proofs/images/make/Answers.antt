use Rattle.std.proofs.Common.{length, ap, ◌∙◌, arith}
use Rattle.store_plan.proofs.MakingLaws.{made_none, made_more, made_all, length_made, length_cell}
use Rattle.store_plan.proofs.images.make.Goals as goal

pub loop-cell-init : goal.loop-cell-init
loop-cell-init c = record {
  so_far = made_none c.args.cells c.args.image.now c.make_head.new.image c.make_head.ensures;
  size = ap length c.make_head.ensures ∙ length_made c.args.cells c.args.image.now (let s = c.requires.size in omega arith);
}

pub loop-cell-preserved : goal.loop-cell-preserved
loop-cell-preserved c =
    let n = c.args.cells in
    let i = c.loop-cell.cell in
    let start = c.args.image.now in
    let size = c.requires.size in
    let head = length_made n start (let s = c.requires.size in omega arith) in
    record {
      so_far = made_more n i start c.loop-cell.image c.make_cell.new.image (let t = c.loop-cell-test.true in omega arith) (omega (arith, head, size)) c.loop-cell.invariant.so_far c.make_cell.ensures.made;
      size = ap length c.make_cell.ensures.made ∙ (length_cell i c.loop-cell.image (let t = c.loop-cell-test.true in let l = c.loop-cell.invariant.size in omega (arith, size)) ∙ c.loop-cell.invariant.size);
    }

pub returns : goal.returns
returns c = made_all c.args.cells c.loop-cell.cell c.args.image.now c.loop-cell.image (let t = c.loop-cell-test.false in omega arith) c.requires.size c.loop-cell.invariant.so_far
