use Rattle.std.proofs.Common.{◌≡◌, ◌≤◌, ◌+◌, map, length, drop, vec_len}
use Rattle.std.specs.Vec.{vec_capacity}
use Rattle.bus_world.specs.Starts.{OpenedFirst}
use Rattle.bus_world.proofs.start.open_all.Given as goal

abbrev pub invariant-loop-place : goal.invariant-loop-place
invariant-loop-place g l =
    OpenedFirst l.start l.place l.bus (map g.D.Disk.state l.initial.disks.items) l.nodes.items
    × (map g.D.Disk.state l.disks.items ≡ drop l.place (map g.D.Disk.state l.initial.disks.items))
    × (vec_len l.disks + l.place ≡ vec_len l.initial.disks)
    × (vec_len l.initial.disks ≤ vec_capacity l.disks)
    × (vec_len l.nodes ≡ l.place)
    × (length l.bus.nodes ≤ vec_capacity l.nodes)
