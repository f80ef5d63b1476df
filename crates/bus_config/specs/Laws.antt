-- What holds of every named bus
use Rattle.std.specs.Prelude.{◌≡◌, ℕ, ◌<◌, Some, List, length, slice_index_or}
use Rattle.bus_machine.specs.Bus.{IsBus}
use Rattle.bus_config.specs.declared.node_lines.NodeLine.{NodeLine}
use Rattle.bus_config.specs.Buses.{NamedBus, IsNamedBus, configs_of, place_named}

-- its configurations are a bus of the machine
abbrev pub NamedBusesAreBuses : Type 0
NamedBusesAreBuses = (bus : NamedBus) → IsNamedBus bus → IsBus (configs_of bus)

-- a node is found under its own name, and what is found has the name that was asked for
pub record NamesTellNodes : Type 0 where
  pub own : (bus : NamedBus) → IsNamedBus bus → (i : ℕ) (d : NodeLine) → i < length bus.nodes
      → place_named bus.nodes (slice_index_or bus.nodes i d).name ≡ Some i
  pub asked : (nodes : List NodeLine) (name : List ℕ) (i : ℕ) (d : NodeLine) → place_named nodes name ≡ Some i
      → (i < length nodes) × ((slice_index_or nodes i d).name ≡ name)
