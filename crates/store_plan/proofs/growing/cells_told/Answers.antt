use Rattle.std.proofs.Common.{inl, inr}
use Rattle.store_plan.proofs.GrowingLaws.{any-count}
use Rattle.store_plan.proofs.growing.cells_told.Goals as goal

pub returns-then-has_head-clause-told : goal.returns-then-has_head-clause-told
returns-then-has_head-clause-told c = record {
  head = any-count 1 c.cells_counted-cells.result c.args.image.now c.requires (c.has_head_but_count.ensures.0 c.if-not-has_head_but_count.false);
  counts = c.cells_counted-cells.ensures;
  sure = inl (c.has_head.ensures.0 c.if-has_head.true);
}

pub returns-then-ends_erased-clause-told : goal.returns-then-ends_erased-clause-told
returns-then-ends_erased-clause-told c = record {
  head = any-count 1 c.cells_counted-cells.result c.args.image.now c.requires (c.has_head_but_count.ensures.0 c.if-not-has_head_but_count.false);
  counts = c.cells_counted-cells.ensures;
  sure = inr (c.ends_erased.ensures.0 c.if-ends_erased.true);
}
