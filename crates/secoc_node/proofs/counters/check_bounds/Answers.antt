use borrow.Author.Count.{below_more}
use Rattle.secoc_node.specs.Cells.{HoldsSomeBound}
use Rattle.secoc_node.proofs.CellsLaws.{bound_there}
use Rattle.secoc_node.proofs.counters.check_bounds.Goals as goal

-- one more cell that holds a bound
pub loop-place-preserved : goal.loop-place-preserved
loop-place-preserved g c =
    let cells = (g.C.Cells.state c.args.cells.now).cells in
    below_more (HoldsSomeBound c.args.routes.now cells) c.loop-place.place c.loop-place.invariant
    (bound_there c.args.routes.now cells c.loop-place.place c.cell_of_bound.result c.index-routes-place.result
    c.loop-place-test.true c.cell_of_bound.ensures c.index-routes-place.is c.in_default.field-0 c.in_default.ensures.bound)
