use Rattle.std.proofs.Common.{◌≡◌, ◌++◌}
use Rattle.std.specs.Prelude.{flat_map}
use Rattle.std.specs.List.{range_with_len}
use Rattle.bus_script.specs.Trials.{keys_of_node}
use Rattle.bus_script.proofs.trial.push_keys.Given as goal

abbrev pub invariant-loop-place : goal.invariant-loop-place
invariant-loop-place l = l.events.items ≡ l.initial.events.items ++ flat_map (keys_of_node l.bus.nodes) (range_with_len 0 l.place)
