use Rattle.std.proofs.Common.{rules, ◌≡◌, ◌<◌, length}
use Rattle.kept_starts.proofs.LookLaws.{no_disks, first_room_is}
use Rattle.kept_starts.proofs.first.has_room.Goals as goal

pub returns-then-is_empty : goal.returns-then-is_empty
returns-then-is_empty g c =
    let none : length c.args.disks.now ≡ 0 = search rules in
    no_disks g.D.Disk.state c.args.bus.now c.args.disks.now none

pub returns : goal.returns
returns g c =
    let some : 0 < length c.args.disks.now = search rules in
    first_room_is g.D.Disk.state c.args.bus.now c.args.disks.now c.index-disks-0.result c.size_in_bus.result c.size.result some c.index-disks-0.is c.size_in_bus.ensures c.size.ensures
