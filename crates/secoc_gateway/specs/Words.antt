-- The words in which the contracts of a gateway are written, from below and of this crate
pub use Rattle.cut_disk.specs.Armed.{ArmsStop, ArmsFail}
pub use Rattle.cell_store.specs.Reading.{CutAndRead}
pub use Rattle.memory_update.specs.declared.messages.Update.{Update}
pub use Rattle.memory_update.specs.Messages.{Builds}
pub use Rattle.freshness_routes.specs.declared.routes.Direction.TheVariants.{Sends, Receives}
pub use Rattle.bus_machine.specs.declared.events.Event.TheVariants.{Inject}
pub use Rattle.bus_machine.specs.Node.{HasRoute, place_of, counter_at}
pub use Rattle.bus_machine.specs.Sound.{Sound}
pub use Rattle.bus_machine.specs.Steps.{receives, loads, keys, boots, cuts, NodeStep}
pub use Rattle.bus_machine.specs.Bus.{SentLine}
pub use Rattle.bus_machine.specs.Honest.{IsInTime, IsHeard}
pub use Rattle.secoc_node.specs.Words.{IsImage}
pub use Rattle.secoc_node.specs.State.{FitsNow, TellsFitting, IsCovered, Served}
pub use Rattle.secoc_node.specs.Powering.{ComesUp, StaysDown}
pub use Rattle.secoc_node.specs.Lines.{received_line, loaded_line, keyed_line, boot_line, cut_line}
pub use Rattle.secoc_node.specs.Lines.{IfAcceptedWith, IfLeftAlone}
pub use Rattle.secoc_gateway.specs.Gateway.{second_of as second_in, departs_under, EventStep, GatewayStep}
pub use Rattle.secoc_gateway.specs.State.{over}
pub use Rattle.secoc_gateway.specs.Pairs.{AreGood, IsLowestBad}
pub use Rattle.bus_world.specs.Turns.{CanBeDone}
pub use Rattle.secoc_gateway.specs.Turns.{EventTurn, GatewayTurn}
pub use Rattle.secoc_gateway.specs.Arrivals.{arrival_line, IfForwarded, IfNotForwarded, IfSpent}
pub use Rattle.secoc_gateway.specs.Arrivals.{IfNothingDone, CanForward, IsForwardedWith}
pub use Rattle.secoc_gateway.specs.Relayed.{DepartsIn, ServedArrival}
