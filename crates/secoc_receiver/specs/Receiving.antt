-- What the answer of a receiver is for the machine's node (own; the verdict is that of AUTOSAR SecOC, profile 1)
use Rattle.std.specs.Prelude.{◌≡◌, ℕ, ◌+◌, Option, None, Some, Result, Ok, Err, List, length, take}
use Rattle.cut_disk.specs.Calls.{Rose}
use Rattle.cell_store.specs.Cells.{CellsState}
use Rattle.key_slots.specs.Slots.{slot_at}
use Rattle.memory_update.specs.Loading.{key_in}
use Rattle.secured_pdu.specs.Verdict as verdict
use Rattle.freshness_routes.specs.declared.routes.Direction.TheVariants.{Receives}
use Rattle.freshness_routes.specs.declared.routes.Route.{Route}
use Rattle.freshness_manager.specs.Counters.{ReceiverCounter}
use Rattle.freshness_manager.specs.Changing.{MovesTo, FailsDue, due_of_receiver}
use Rattle.she_engine.specs.declared.engine.Engine.{Engine}
use Rattle.bus_machine.specs.declared.lines.Line as line
use Rattle.bus_machine.specs.declared.lines.Line.TheVariants.{Refused}
use Rattle.bus_machine.specs.declared.lines.Refusal as machine
use Rattle.bus_machine.specs.declared.lines.Refusal.TheVariants as refusal
use Rattle.bus_machine.specs.Node.{Node, bound_to, place_of, with_counter, failed}
use Rattle.bus_machine.specs.Steps.{receive_change}
use Rattle.secoc_receiver.specs.declared.receiver.Reception.{Reception}
use Rattle.secoc_receiver.specs.declared.receiver.Reception.TheVariants.{Accepted, FreshnessFailure}
use Rattle.secoc_receiver.specs.declared.receiver.Reception.TheVariants.{VerificationFailure}
use Rattle.secoc_receiver.specs.declared.receiver.ReceiveFault.{ReceiveFault}
use Rattle.secoc_receiver.specs.declared.receiver.ReceiveFault.TheVariants.{BadLength, Key, Faulted}

-- the route is the one whose counter this is
pub record IsReceiverRoute (route : Route) (rx : ReceiverCounter) : Type 0 where
  pub direction : route.direction ≡ Receives
  pub id : route.id ≡ rx.id
  pub reserve : route.reserve ≡ rx.reserve
  pub window : route.window ≡ rx.window

-- the refusal that the machine knows the answer by, if it is one
abbrev pub refusal_of_receive : Result Reception ReceiveFault → Option machine.Refusal
refusal_of_receive (Ok said) = None
refusal_of_receive (Err BadLength) = Some refusal.BadLength
refusal_of_receive (Err (Key erc)) = Some (refusal.Key erc)
refusal_of_receive (Err (Faulted bound)) = None

-- the verdict on this PDU: an accepted payload is a prefix of it
abbrev pub outcome_in : List ℕ → Reception → verdict.Outcome
outcome_in pdu (Accepted freshness len) = verdict.Accepted (take len pdu) freshness
outcome_in pdu FreshnessFailure = verdict.FreshnessFailure
outcome_in pdu VerificationFailure = verdict.VerificationFailure

-- what holds if the PDU is accepted with a freshness and a payload of this length; if it isn't; and if it isn't and no
-- bound was to be put
abbrev pub IfAccepted : Result Reception ReceiveFault → (ℕ → ℕ → Type 0) → Type 0
IfAccepted (Ok (Accepted freshness len)) P = P freshness len
IfAccepted _ P = Unit {0}

abbrev pub IfNotAccepted : Result Reception ReceiveFault → Type 0 → Type 0
IfNotAccepted (Ok (Accepted freshness len)) P = Unit {0}
IfNotAccepted _ P = P

abbrev pub IfUnmoved : Result Reception ReceiveFault → Type 0 → Type 0
IfUnmoved (Ok (Accepted freshness len)) P = Unit {0}
IfUnmoved (Err (Faulted bound)) P = Unit {0}
IfUnmoved _ P = P

-- what is left where a freshness and a payload of this length are accepted of a PDU
pub record AcceptsPdu (v len : ℕ) (pdu : List ℕ) (before after : ReceiverCounter) (old new : CellsState) : Type 0 where
  pub as_long : len + 4 ≡ length pdu
  pub moved : MovesTo v before after old new

-- the bound no longer covers the freshness, and the put of the one that does failed
abbrev pub FaultedWith : ReceiveFault → ReceiverCounter → ℕ → CellsState → CellsState → Type 0
FaultedWith (Faulted bound) rx freshness old new =
    FailsDue rx.place rx.id Receives (due_of_receiver rx freshness) bound old new
FaultedWith _ rx freshness old new = ⊥

-- the PDU is authentic with a freshness ahead, which the bound no longer covers, and the put of the bound that does
-- failed
pub record FaultedAt (bound : ℕ) (engine : Engine) (rx : ReceiverCounter) (route : Route) (pdu : List ℕ)
    (old new : CellsState) : Type 0 where
  pub payload : List ℕ
  pub freshness : ℕ
  pub verdict_is : verdict.Verdict (key_in (slot_at engine.slots route.slot)) route.id rx.counter route.window pdu
      (verdict.Accepted payload freshness)
  pub failed : FaultedWith (Faulted bound) rx freshness old new

-- the PDU is accepted with this payload and freshness, or the disk failed
abbrev pub ComesThrough : List ℕ → ℕ → Result Reception ReceiveFault → CellsState → CellsState → Type 0
ComesThrough payload v (Ok (Accepted freshness len)) old new = (freshness ≡ v) × (len ≡ length payload)
ComesThrough payload v (Err (Faulted bound)) old new = Rose old.disk.faults new.disk.faults
ComesThrough payload v _ old new = ⊥

-- the line that tells of the verdict on a PDU under this Data ID, which came from this event
abbrev pub line_of_receive : ℕ → List ℕ → Option ℕ → Result Reception ReceiveFault → line.Line
line_of_receive id pdu source (Ok (Accepted freshness len)) =
    line.TheVariants.Accepted id freshness (take len pdu) source
line_of_receive id pdu source (Ok FreshnessFailure) = line.TheVariants.FreshnessFailure
line_of_receive id pdu source (Ok VerificationFailure) = line.TheVariants.VerificationFailure
line_of_receive id pdu source (Err BadLength) = Refused refusal.BadLength
line_of_receive id pdu source (Err (Key erc)) = Refused (refusal.Key erc)
line_of_receive id pdu source (Err (Faulted bound)) = Refused refusal.MemoryFailure

-- the machine's node after it: its counter is the accepted freshness, and its bound rose if that was due; or it waits
-- for the bound that was to be put
abbrev pub after_receive : Node → ℕ → Result Reception ReceiveFault → Node
after_receive node id (Ok (Accepted freshness len)) =
    with_counter (receive_change node (place_of node id Receives) freshness) (place_of node id Receives) freshness node
after_receive node id (Err (Faulted bound)) = failed (bound_to (place_of node id Receives) bound) node
after_receive node id _ = node
