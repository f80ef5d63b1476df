use Rattle.std.proofs.Common.{◌≡◌, ◌++◌, drop}
use Rattle.bus_script.specs.Trials.{route_ids}
use Rattle.bus_script.proofs.trial.route_ids.Given as goal

abbrev pub invariant-loop-node : goal.invariant-loop-node
invariant-loop-node l = l.ids.items ++ route_ids (drop l.node-index l.nodes) ≡ route_ids l.nodes
