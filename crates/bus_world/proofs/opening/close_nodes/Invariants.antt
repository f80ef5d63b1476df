use Rattle.std.proofs.Common.{◌≡◌, ◌≤◌, ◌+◌, ◌++◌, map, vec_len}
use Rattle.std.specs.Vec.{vec_capacity}
use Rattle.bus_world.specs.Starts.{disks_of}
use Rattle.bus_world.proofs.opening.close_nodes.Given as goal

abbrev pub invariant-loop-node : goal.invariant-loop-node
invariant-loop-node g l =
    (disks_of l.nodes.items ++ map g.D.Disk.state l.disks.items ≡ disks_of l.fn.nodes.items ++ map g.D.Disk.state l.initial.disks.items)
    × (vec_len l.disks + vec_len l.nodes ≤ vec_capacity l.disks)

abbrev pub decreases-loop-node : goal.decreases-loop-node
decreases-loop-node g l = vec_len l.nodes
