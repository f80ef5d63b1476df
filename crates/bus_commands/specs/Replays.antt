-- A replay that was started: the turns of its first events, over disks of any kind
use Rattle.std.specs.Prelude.{◌≡◌, List, ◌++◌, length, drop, Result}
use Rattle.bus_port.specs.Sink.{SinkState}
use Rattle.cut_disk.specs.State.{DiskState}
use Rattle.run_driver.specs.declared.printing.Unwritten.{Unwritten}
use Rattle.run_driver.specs.Printed.{Printed}
use Rattle.bus_machine.specs.declared.events.Event.{Event}
use Rattle.bus_config.specs.Buses.{NamedBus, IsNamedBus}
use Rattle.bus_script.specs.LineTexts.{line_text}
use Rattle.bus_world.specs.Worlds.{BusState, BusTurn}
use Rattle.bus_world.specs.Starts.{Started, disks_of}
use Rattle.bus_world.specs.declared.start.Start.{Start}

-- the bus was started, and took the turns of the first events, up to the first whose text wasn't written; the disks
-- are back in their order
pub record ReplayTurns (how : Start) (bus : NamedBus) (before after : List DiskState) (events : List Event)
    (sink_before sink_after : SinkState) (result : Result (Unit {0}) Unwritten) : Type 0 where
  pub is_bus : IsNamedBus bus
  pub start : BusState
  pub now : BusState
  pub started : Started how bus (length events) before start
  pub printed : Printed BusTurn line_text start now sink_before sink_after events result
  pub disks : after ≡ disks_of now.nodes ++ drop (length bus.nodes) before
