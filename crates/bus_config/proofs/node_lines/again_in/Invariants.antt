use Rattle.std.proofs.Common.{◌≡◌, ◌++◌, take, drop}
use Rattle.bus_config.specs.Buses.{ids_sent, ids_sent_by, again_after}
use Rattle.bus_config.proofs.node_lines.again_in.Given as goal

abbrev pub invariant-loop-place : goal.invariant-loop-place
invariant-loop-place l =
    again_after (ids_sent l.before) (ids_sent_by l.routes)
    ≡ again_after (ids_sent l.before ++ ids_sent_by (take l.place l.routes)) (ids_sent_by (drop l.place l.routes))
