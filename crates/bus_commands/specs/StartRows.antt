-- The disks of a command
use Rattle.std.specs.Prelude.{◌≡◌, ℕ, ◌<◌, Some, List, length, map, get_or, Vec}
use Rattle.std.specs.declared.alloc.Global.{Global}
use Rattle.cut_disk.specs.State.{DiskState, Told}
use Rattle.bus_config.specs.declared.node_lines.NodeLine.{NodeLine}
use Rattle.bus_config.specs.Buses.{NamedBus}
use Rattle.bus_world.specs.StartRows.{CanStart}
use Rattle.bus_world.specs.declared.start.Start.TheVariants.{Attach}
use Rattle.bus_world.specs.StartAnswers.{DiskStates}

-- the disks themselves before and after it, and what was known of them
pub record CommandDisks (V : Type 0) : Type 0 where
  pub old : V
  pub new : V
  pub states : DiskStates

-- these disks before and after it, as `state` has them
abbrev pub disks_between : {D : Type 0} → (D → DiskState) → Vec D Global → Vec D Global → CommandDisks (Vec D Global)
disks_between state old new =
    record { old = old; new = new; states = record { before = map state old.items; after = map state new.items } }

-- the disk of a node of the bus tells bytes over which it can't go on: nothing that a node keeps stands on them
pub record HoldsNoNode (bus : NamedBus) (disks : List DiskState) : Type 0 where
  pub place : ℕ
  pub inside : place < length bus.nodes
  pub none : (l : NodeLine) (d : DiskState) → (told : Told) × ((get_or disks place d).told ≡ Some told)
      × ¬ CanStart Attach bus.kind bus.version (get_or bus.nodes place l).config told.bytes
