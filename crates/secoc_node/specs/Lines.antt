-- The line of the machine that each answer of a node stands for
use Rattle.std.specs.Prelude.{ℕ, Bool, Option, Result, Ok, Err, List, take}
use Rattle.cell_store.specs.declared.faults.Reread.TheVariants as reread
use Rattle.memory_update.specs.declared.messages.Reply.{Reply}
use Rattle.secoc_sender.specs.declared.sender.Sent.{Sent as Sending}
use Rattle.secoc_receiver.specs.declared.receiver.Reception.{Reception}
use Rattle.secoc_receiver.specs.declared.receiver.Reception.TheVariants as reception
use Rattle.bus_machine.specs.declared.lines.Line.{Line}
use Rattle.bus_machine.specs.declared.lines.Line.TheVariants.{Sent, Accepted, FreshnessFailure, VerificationFailure}
use Rattle.bus_machine.specs.declared.lines.Line.TheVariants.{Keyed, Loaded, Boot, Up, Refused}
use Rattle.bus_machine.specs.declared.lines.Refusal.{Refusal}
use Rattle.bus_machine.specs.declared.lines.Refusal.TheVariants as refusal
use Rattle.secoc_node.specs.declared.faults.NodeFault.{NodeFault}
use Rattle.secoc_node.specs.declared.faults.NodeFault.TheVariants as fault
use Rattle.secoc_node.specs.declared.faults.CutFault.{CutFault}
use Rattle.secoc_node.specs.declared.faults.CutFault.TheVariants as cut

-- a failure of the disk is `MemoryFailure`
abbrev pub refusal_of_fault : NodeFault → Refusal
refusal_of_fault fault.Down = refusal.Down
refusal_of_fault fault.NoRoute = refusal.NoRoute
refusal_of_fault fault.BadLength = refusal.BadLength
refusal_of_fault (fault.Key erc) = refusal.Key erc
refusal_of_fault fault.Exhausted = refusal.Exhausted
refusal_of_fault fault.Faulted = refusal.MemoryFailure

-- of a send under this Data ID, whose PDU stands at the beginning of `out`
abbrev pub sent_line : ℕ → List ℕ → Result Sending NodeFault → Line
sent_line id out (Ok sent) = Sent id sent.freshness (take sent.len out)
sent_line id out (Err fault) = Refused (refusal_of_fault fault)

-- of the PDU under this Data ID, which begins with the payload; `source` is the event that sent it
abbrev pub received_line : ℕ → List ℕ → Option ℕ → Result Reception NodeFault → Line
received_line id pdu source (Ok (reception.Accepted freshness len)) = Accepted id freshness (take len pdu) source
received_line id pdu source (Ok reception.FreshnessFailure) = FreshnessFailure
received_line id pdu source (Ok reception.VerificationFailure) = VerificationFailure
received_line id pdu source (Err fault) = Refused (refusal_of_fault fault)

-- of a load
abbrev pub loaded_line : Result Reply NodeFault → Line
loaded_line (Ok reply) = Loaded reply
loaded_line (Err fault) = Refused (refusal_of_fault fault)

-- of the load of a request that was built for this slot
abbrev pub keyed_line : ℕ → Result Reply NodeFault → Line
keyed_line slot (Ok reply) = Keyed slot
keyed_line slot (Err fault) = Refused (refusal_of_fault fault)

-- of a boot
abbrev pub boot_line : Result Bool NodeFault → Line
boot_line (Ok good) = Boot good
boot_line (Err fault) = Refused (refusal_of_fault fault)

-- of a power cut
abbrev pub refusal_of_cut : CutFault → Refusal
refusal_of_cut (cut.Store reread.DiskFailed) = refusal.MemoryFailure
refusal_of_cut (cut.Store reread.NotFormatted) = refusal.NotFormatted
refusal_of_cut (cut.Store (reread.Damaged place)) = refusal.Damaged place
refusal_of_cut (cut.BadSlot slot) = refusal.BadSlot slot
refusal_of_cut (cut.BadBound place) = refusal.BadBound place

abbrev pub cut_line : Result (Unit {0}) CutFault → Line
cut_line (Ok u) = Up
cut_line (Err fault) = Refused (refusal_of_cut fault)

-- what holds of the freshness and of the payload's length if a PDU is accepted
abbrev pub IfAcceptedWith : Result Reception NodeFault → (ℕ → ℕ → Type 0) → Type 0
IfAcceptedWith (Ok (reception.Accepted freshness len)) P = P freshness len
IfAcceptedWith _ P = Unit {0}

-- what holds if it isn't, and the disk didn't fail
abbrev pub IfLeftAlone : Result Reception NodeFault → Type 0 → Type 0
IfLeftAlone (Ok (reception.Accepted freshness len)) P = Unit {0}
IfLeftAlone (Err fault.Faulted) P = Unit {0}
IfLeftAlone _ P = P
