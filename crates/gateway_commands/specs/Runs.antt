-- A gateway that was started: the turns of its first events, over a disk of any kind
use Rattle.std.specs.Prelude.{◌≡◌, ℕ, List, ◌∷◌, drop, get_or, Result}
use Rattle.bus_port.specs.Sink.{SinkState}
use Rattle.cut_disk.specs.State.{DiskState}
use Rattle.run_driver.specs.declared.printing.Unwritten.{Unwritten}
use Rattle.run_driver.specs.Printed.{Printed}
use Rattle.bus_machine.specs.declared.events.Event.{Event}
use Rattle.bus_config.specs.Buses.{NamedBus, IsNamedBus}
use Rattle.bus_world.specs.declared.start.Start.TheVariants.{Format}
use Rattle.bus_world.specs.Starts.{HasRoom, Opened}
use Rattle.secoc_gateway.specs.State.{GatewayState, over}
use Rattle.secoc_gateway.specs.Turns.{GatewayTurn}
use Rattle.gateway_commands.specs.Texts.{gateway_text}
use Rattle.gateway_commands.specs.Inputs.{TakesPairs, gate_config}

-- the first disk was formatted for the node. A gateway over it took the turns of the first events, up to the first
-- whose text wasn't written. The disk is back in its place
pub record RanGateway (bus : NamedBus) (pairs : List (ℕ × ℕ)) (before after : List DiskState) (events : List Event)
    (sink_before sink_after : SinkState) (result : Result (Unit {0}) Unwritten) : Type 0 where
  pub is_bus : IsNamedBus bus
  pub takes : TakesPairs bus pairs
  pub room : HasRoom bus before
  pub start : GatewayState
  pub now : GatewayState
  pub opened : (d : DiskState) → Opened Format bus.kind bus.version (gate_config bus) (get_or before 0 d) (over start)
  pub pairs_are : start.pairs ≡ pairs
  pub printed : Printed GatewayTurn gateway_text start now sink_before sink_after events result
  pub disks : after ≡ now.store.disk ∷ drop 1 before
