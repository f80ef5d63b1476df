use Rattle.std.proofs.Common.{length, subst, ap, rules, arith}
use Rattle.freshness_routes.specs.Config.{IsConfig}
use Rattle.secoc_node.proofs.FirstCells.{front_so_far, front_rest, one_cell_more, rest_as_before, all_cells, same_behind}
use Rattle.secoc_node.proofs.cells.first_cells.Goals as goal

-- fourteen zero cells
pub loop-place-init : goal.loop-place-init
loop-place-init c = record {
  size = search rules;
  so_far = front_so_far c.args.config.now (subst IsConfig c.config.view_is c.config.invariant) c.copy_from_slice.new.self _ c.copy_from_slice.ensures.after;
  rest = λ k behind. front_rest c.copy_from_slice.new.self c.args.out.now (ap length c.copy_from_slice.ensures.after) k (omega (arith, behind));
}

-- the cell of one more bound
pub loop-place-preserved : goal.loop-place-preserved
loop-place-preserved c = record {
  size = search rules;
  so_far = one_cell_more c.args.config.now (subst IsConfig c.config.view_is c.config.invariant) c.loop-place.out c.loop-place.place c.index-routes-place.result c.bound_bytes.result
      (search rules) (search rules) (search rules) c.bound_bytes.ensures c.loop-place.invariant.so_far;
  rest = rest_as_before c.loop-place.out c.args.out.now (length c.as_slice-routes.result.now) c.loop-place.place c.bound_bytes.result c.loop-place-test.true c.loop-place.invariant.rest;
}

pub returns-clause-cells : goal.returns-clause-cells
returns-clause-cells c = all_cells c.args.config.now (subst IsConfig c.config.view_is c.config.invariant) c.loop-place.out _ (search rules) (search rules) (search rules)

pub returns-clause-rest : goal.returns-clause-rest
returns-clause-rest c = same_behind _ c.loop-place.out c.args.out.now (search rules) c.loop-place.invariant.rest
