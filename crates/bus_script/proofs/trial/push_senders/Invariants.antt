use Rattle.std.proofs.Common.{◌≡◌, ◌++◌, take}
use Rattle.bus_config.specs.Buses.{ids_sent_by}
use Rattle.bus_script.specs.Trials.{senders_at}
use Rattle.bus_script.proofs.trial.push_senders.Given as goal

abbrev pub invariant-loop-route : goal.invariant-loop-route
invariant-loop-route l = l.senders.items ≡ l.initial.senders.items ++ senders_at l.node (ids_sent_by (take l.route-index l.routes))
