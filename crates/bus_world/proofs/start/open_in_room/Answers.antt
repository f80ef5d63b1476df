use Rattle.std.specs.Prelude.{map}
use Rattle.bus_world.proofs.StartLaws.{start_refused, start_unopened}
use Rattle.bus_world.proofs.start.open_in_room.Goals as goal

pub returns-in_default-clause-refused : goal.returns-in_default-clause-refused
returns-in_default-clause-refused g c = start_unopened c.args.start c.args.bus.now (map g.D.Disk.state c.args.disks.now.items) c.requires.room

pub returns-in-Err-clause-refused : goal.returns-in-Err-clause-refused
returns-in-Err-clause-refused g c =
    start_refused c.args.start c.args.bus.now (map g.D.Disk.state c.args.disks.now.items) (map g.D.Disk.state c.open_all.new.disks.items) (map g.D.Disk.state c.close_nodes.new.disks.items) c.open_all.new.nodes.items c.in-Err.fault
    c.requires.room c.in-Err.ensures.opened c.close_nodes.ensures
