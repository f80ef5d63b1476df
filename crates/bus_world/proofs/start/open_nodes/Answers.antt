use Rattle.std.specs.Prelude.{◌≡◌, List, map, Result, Ok, Err, IfErr}
use Rattle.std.proofs.Common.{subst}
use Rattle.cut_disk.specs.State.{DiskState}
use Rattle.bus_config.specs.Buses.{NamedBus}
use Rattle.bus_world.specs.declared.start.Start.{Start}
use Rattle.bus_world.specs.declared.start.StartFault.{StartFault}
use Rattle.bus_world.specs.Starts.{HasRoom, NotStarted}
use Rattle.bus_world.specs.StartRows.{start_row}
use Rattle.bus_world.proofs.StartRowLaws.{room_not_9}
use Rattle.bus_world.proofs.start.open_nodes.Goals as goal

unread_in_room : {A : Type 0} (start : Start) (bus : NamedBus) (before after : List DiskState) (P : Type 0) (r : Result A StartFault) → HasRoom bus before
    → IfErr r (NotStarted start bus before after) → IfErr r (λ fault. (start_row fault).status ≡ 9 → P)
unread_in_room start bus before after P (Ok a) room refused = tt
unread_in_room start bus before after P (Err fault) room refused = λ is. absurd (room_not_9 start bus before after fault room refused is)

pub returns-in-Ok-clause-unread : goal.returns-in-Ok-clause-unread
returns-in-Ok-clause-unread g c =
    let room = subst (λ ds. HasRoom c.args.bus.now (map g.D.Disk.state ds)) c.as_slice.ensures.value c.in-Ok.ensures in
    unread_in_room c.args.start c.args.bus.now (map g.D.Disk.state c.args.disks.now.items) (map g.D.Disk.state c.open_in_room.new.disks.items) _ c.open_in_room.result room
    c.open_in_room.ensures.refused
