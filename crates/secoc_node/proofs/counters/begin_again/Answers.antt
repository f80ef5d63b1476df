use Rattle.secoc_node.proofs.CellsLaws.{no_bound_there}
use Rattle.secoc_node.proofs.counters.begin_again.Goals as goal

-- the bound is there
pub unreachable-requires : goal.unreachable-requires
unreachable-requires g c =
    no_bound_there c.args.routes.now (g.C.Cells.state c.args.cells.now).cells c.loop-place.place c.cell_of_bound.result c.index-routes-place.result
    c.loop-place-test.true c.cell_of_bound.ensures c.index-routes-place.is c.requires.all c.in_default.ensures.none
