use Rattle.std.proofs.Common.{subst}
use Rattle.freshness_routes.specs.Config.{Config}
use Rattle.secoc_node.specs.Cells.{HoldsBounds}
use Rattle.secoc_node.proofs.known.Known.attach.Goals as goal

pub returns-in-Err-counters_of-clause-cause : goal.returns-in-Err-counters_of-clause-cause
returns-in-Err-counters_of-clause-cause g c = record {
  slots = c.in-Ok.engine.slots;
  held = c.in-Ok.ensures.slots;
  bounds =
      subst (λ (config : Config). HoldsBounds config.routes (g.C.Cells.state c.args.cells.now).cells) c.config.view_is
      (subst (λ routes. HoldsBounds routes (g.C.Cells.state c.args.cells.now).cells) c.as_slice-routes.ensures c.in_default.ensures.all);
}
