use Rattle.std.proofs.Common.{◌≡◌, length, map, arith, rules}
use Rattle.std.proofs.lemmas.List.{length-map}
use Rattle.kept_starts.specs.LookedAt.{no_room}
use Rattle.bus_commands.proofs.KeptRun.{no_room_for_many}
use Rattle.bus_commands.proofs.keeping.look_at_one.Goals as goal

pub returns-then-nodes-ne1-clause-looked : goal.returns-then-nodes-ne1-clause-looked
returns-then-nodes-ne1-clause-looked g c =
    no_room (no_room_for_many c.args.bus.now (map g.D.Disk.state c.args.disks.now.items) c.requires.is_bus.least
    (length-map c.args.disks.now.items g.D.Disk.state) c.requires.one (search rules))
