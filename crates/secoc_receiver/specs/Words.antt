-- The words in which the contract of a receiver is written, from below and of this crate
pub use Rattle.key_slots.specs.Slots.{slot_at}
pub use Rattle.key_slots.specs.Usage.{usable}
pub use Rattle.key_slots.specs.declared.usage.Purpose.TheVariants.{Mac}
pub use Rattle.memory_update.specs.Loading.{key_in}
pub use Rattle.secure_boot.specs.Booting.{is_good}
pub use Rattle.secured_pdu.specs.Frame.{IsFrame, Secured, Ahead}
pub use Rattle.secured_pdu.specs.Verdict.{Verdict}
pub use Rattle.freshness_routes.specs.declared.routes.Direction.TheVariants.{Receives}
pub use Rattle.freshness_manager.specs.Counters.{KeepsBound}
pub use Rattle.freshness_manager.specs.Changing.{MovesTo, KeepsRoute}
pub use Rattle.bus_machine.specs.Handlers.{ServesRoute}
pub use Rattle.bus_machine.specs.Node.{Node}
pub use Rattle.bus_machine.specs.Steps.{first_of, receiver_refusals, receives, NodeStep}
pub use Rattle.secoc_receiver.specs.Receiving.{IsReceiverRoute, AcceptsPdu, refusal_of_receive, line_of_receive}
pub use Rattle.secoc_receiver.specs.Receiving.{after_receive, outcome_in, IfAccepted, IfNotAccepted, IfUnmoved}
pub use Rattle.secoc_receiver.specs.Receiving.{FaultedAt, FaultedWith, ComesThrough}
