use Rattle.std.specs.Prelude.{map}
use Rattle.bus_world.proofs.StartLaws.{start_unopened, not_found}
use Rattle.bus_world.proofs.start.without_records.Goals as goal

pub returns-in-Ok : goal.returns-in-Ok
returns-in-Ok g c = λ start. start_unopened start c.args.bus.now (map g.D.Disk.state c.args.disks.now) c.in-Ok.ensures

pub returns-in-Err : goal.returns-in-Err
returns-in-Err g c = not_found c.args.bus.now (map g.D.Disk.state c.args.disks.now) c.in-Err.fault c.in-Err.ensures
