use Rattle.std.proofs.Common.{◌≡◌, [], take, drop}
use Rattle.bus_config.specs.Buses.{ids_sent, again_after}
use Rattle.bus_config.proofs.node_lines.sent_again.Given as goal

abbrev pub invariant-loop-place : goal.invariant-loop-place
invariant-loop-place l =
    again_after [] (ids_sent l.nodes) ≡ again_after (ids_sent (take l.place l.nodes)) (ids_sent (drop l.place l.nodes))
