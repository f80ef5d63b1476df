-- The words in which the contracts of a node are written, from below and of this crate
pub use Rattle.cut_disk.specs.Armed.{ArmsStop, ArmsFail}
pub use Rattle.cell_store.specs.Reading.{CutAndRead}
pub use Rattle.cell_store.specs.Cells.{Settled}
pub use Rattle.secure_boot.specs.Booting.{IsImage}
pub use Rattle.memory_update.specs.declared.messages.Update.{Update}
pub use Rattle.memory_update.specs.Messages.{Builds}
pub use Rattle.freshness_routes.specs.declared.routes.Direction.TheVariants.{Sends, Receives}
pub use Rattle.bus_machine.specs.Node.{Kept, HasRoute, place_of, counter_at, powered}
pub use Rattle.bus_machine.specs.Sound.{Sound}
pub use Rattle.bus_machine.specs.Steps.{sends, receives, loads, keys, boots, cuts, NodeStep}
pub use Rattle.bus_machine.specs.Bus.{SentLine}
pub use Rattle.bus_machine.specs.Honest.{IsInTime, IsHeard}
pub use Rattle.secoc_node.specs.Cells.{CellsOf, IsKept}
pub use Rattle.secoc_node.specs.State.{FitsNow, TellsFitting, IsCovered, Served}
pub use Rattle.secoc_node.specs.Causes.{AttachCause}
pub use Rattle.secoc_node.specs.Powering.{ComesUp, StaysDown}
pub use Rattle.secoc_node.specs.Lines.{sent_line, received_line, loaded_line, keyed_line, boot_line, cut_line}
pub use Rattle.secoc_node.specs.Lines.{IfAcceptedWith, IfLeftAlone}
