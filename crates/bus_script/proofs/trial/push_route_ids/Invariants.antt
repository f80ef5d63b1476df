use Rattle.std.proofs.Common.{◌≡◌, ◌++◌, take}
use Rattle.bus_script.specs.Trials.{ids_at}
use Rattle.bus_script.proofs.trial.push_route_ids.Given as goal

abbrev pub invariant-loop-route : goal.invariant-loop-route
invariant-loop-route l = l.ids.items ≡ l.initial.ids.items ++ ids_at (take l.route-index l.routes)
