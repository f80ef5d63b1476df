use Rattle.std.proofs.Common.{rules, arith, vec_len, ◌≡◌, ◌↔◌, List, length, map, subst}
use Rattle.std.specs.Prelude.{IsTrue}
use Rattle.kept_starts.specs.LookedAt.{HasStoreRoom, no_room}
use Rattle.kept_starts.proofs.LookLaws.{room_or_not, room_there, some_there, fits_there, first_looked, unlooked_room}
use Rattle.kept_starts.proofs.first.look_first.Goals as goal

pub returns-then-not-has_room-clause-looked : goal.returns-then-not-has_room-clause-looked
returns-then-not-has_room-clause-looked g c =
    let test : IsTrue c.has_room.result ↔ HasStoreRoom c.args.bus.now (map g.D.Disk.state c.args.disks.now.items) =
    subst (λ (ds : List _). IsTrue c.has_room.result ↔ HasStoreRoom c.args.bus.now (map g.D.Disk.state ds)) c.as_slice.ensures.value c.has_room.ensures in
    no_room (room_or_not g.D.Disk.state c.args.bus.now c.args.disks.now.items c.requires c.has_room.result test c.if-not-has_room.true)

pub remove-disk-requires : goal.remove-disk-requires
remove-disk-requires g c =
    let test : IsTrue c.has_room.result ↔ HasStoreRoom c.args.bus.now (map g.D.Disk.state c.args.disks.now.items) =
    subst (λ (ds : List _). IsTrue c.has_room.result ↔ HasStoreRoom c.args.bus.now (map g.D.Disk.state ds)) c.as_slice.ensures.value c.has_room.ensures in
    let some = some_there g.D.Disk.state c.args.bus.now c.args.disks.now.items c.has_room.result test c.if-not-has_room.false in
    let same : vec_len c.args.disks.now ≡ length c.args.disks.now.items = search rules in
    omega (arith, some, same)

pub look_at-disk-requires-clause-room : goal.look_at-disk-requires-clause-room
look_at-disk-requires-clause-room g c =
    let test : IsTrue c.has_room.result ↔ HasStoreRoom c.args.bus.now (map g.D.Disk.state c.args.disks.now.items) =
    subst (λ (ds : List _). IsTrue c.has_room.result ↔ HasStoreRoom c.args.bus.now (map g.D.Disk.state ds)) c.as_slice.ensures.value c.has_room.ensures in
    fits_there g.D.Disk.state c.args.bus.now c.args.disks.now.items c.remove-disk.result c.has_room.result test c.if-not-has_room.false c.remove-disk.ensures.value

pub returns-clause-looked : goal.returns-clause-looked
returns-clause-looked g c =
    let test : IsTrue c.has_room.result ↔ HasStoreRoom c.args.bus.now (map g.D.Disk.state c.args.disks.now.items) =
    subst (λ (ds : List _). IsTrue c.has_room.result ↔ HasStoreRoom c.args.bus.now (map g.D.Disk.state ds)) c.as_slice.ensures.value c.has_room.ensures in
    first_looked g.D.Disk.state c.args.bus.now c.args.disks.now.items c.remove-disk.new.self.items c.put_first.new.disks.items c.remove-disk.result c.look_at-disk.result.0
    c.look_at-disk.result.1 (some_there g.D.Disk.state c.args.bus.now c.args.disks.now.items c.has_room.result test c.if-not-has_room.false)
    c.remove-disk.ensures.value c.remove-disk.ensures.by_index.2 c.put_first.ensures.items
    (room_there g.D.Disk.state c.args.bus.now c.args.disks.now.items c.requires c.has_room.result test c.if-not-has_room.false)
    c.look_at-disk.ensures.as_before c.look_at-disk.ensures.keeps c.look_at-disk.ensures.keeps_older

pub returns-clause-unlooked : goal.returns-clause-unlooked
returns-clause-unlooked g c =
    let test : IsTrue c.has_room.result ↔ HasStoreRoom c.args.bus.now (map g.D.Disk.state c.args.disks.now.items) =
    subst (λ (ds : List _). IsTrue c.has_room.result ↔ HasStoreRoom c.args.bus.now (map g.D.Disk.state ds)) c.as_slice.ensures.value c.has_room.ensures in
    unlooked_room c.look_at-disk.result.1 c.args.bus.now (map g.D.Disk.state c.args.disks.now.items) c.put_first.new.disks c.args.disks.now
    (room_there g.D.Disk.state c.args.bus.now c.args.disks.now.items c.requires c.has_room.result test c.if-not-has_room.false)
