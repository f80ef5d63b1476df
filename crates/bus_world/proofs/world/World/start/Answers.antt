use Rattle.std.specs.Prelude.{map, []}
use Rattle.std.proofs.Common.{subst}
use Rattle.bus_machine.specs.Bus.{World}
use Rattle.bus_world.specs.Starts.{NotStarted}
use Rattle.bus_world.proofs.SoundLaws.{opened_sound}
use Rattle.bus_world.proofs.world.World.start.Goals as goal

pub invariant_of-result : goal.invariant_of-result
invariant_of-result g c =
    let world : World = record { nodes = []; events = c.in-Ok.history.events; sent = c.in-Ok.history.lines } in
    opened_sound world c.args.start c.args.bus.now (map g.D.Disk.state c.args.disks.now.items) c.in-Ok-open_nodes.nodes.items c.in-Ok-open_nodes.ensures.opened

pub returns-in-Ok-open_nodes-clause-sound : goal.returns-in-Ok-open_nodes-clause-sound
returns-in-Ok-open_nodes-clause-sound g c = invariant_of-result g c

pub returns-in_default-clause-refused : goal.returns-in_default-clause-refused
returns-in_default-clause-refused g c =
    subst (λ ds. NotStarted c.args.start c.args.bus.now (map g.D.Disk.state ds) (map g.D.Disk.state ds) c.without_records.result) c.as_slice.ensures.value
    (c.without_records.ensures c.args.start)
