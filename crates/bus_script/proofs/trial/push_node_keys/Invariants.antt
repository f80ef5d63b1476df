use Rattle.std.proofs.Common.{◌≡◌, ◌++◌}
use Rattle.bus_script.proofs.TrialLists.{keys_below}
use Rattle.bus_script.proofs.trial.push_node_keys.Given as goal

abbrev pub invariant-loop-slot : goal.invariant-loop-slot
invariant-loop-slot l = l.events.items ≡ l.initial.events.items ++ keys_below l.bus.nodes l.node l.slot
