use Rattle.std.proofs.Common.{ℕ, ◌<◌, ◌≤◌, get_or, length}
use Rattle.freshness_routes.specs.Config.{IsConfig}
use Rattle.bus_config.specs.declared.node_lines.NodeLine.{NodeLine}
use Rattle.bus_config.proofs.buses.have_few_routes.Given as goal

abbrev pub invariant-loop-node : goal.invariant-loop-node
invariant-loop-node l = (k : ℕ) (d : NodeLine) → k < l.node-index → (length (get_or l.nodes k d).config.routes ≤ l.most) × IsConfig (get_or l.nodes k d).config
