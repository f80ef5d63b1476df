-- What the answer of a send is for the machine's node (own; the PDU is that of AUTOSAR SecOC, profile 1)
use Rattle.std.specs.Prelude.{◌≡◌, ℕ, ◌+◌, Option, None, Some, Result, Ok, Err, List, length, take, drop}
use Rattle.secured_pdu.specs.Frame.{Secured}
use Rattle.freshness_routes.specs.declared.routes.Direction.TheVariants.{Sends}
use Rattle.freshness_routes.specs.declared.routes.Route.{Route}
use Rattle.freshness_manager.specs.Counters.{SenderCounter}
use Rattle.bus_machine.specs.declared.lines.Line as line
use Rattle.bus_machine.specs.declared.lines.Line.TheVariants.{Refused}
use Rattle.bus_machine.specs.declared.lines.Refusal as machine
use Rattle.bus_machine.specs.declared.lines.Refusal.TheVariants as refusal
use Rattle.bus_machine.specs.Node.{Node, bound_to, place_of, with_counter, failed}
use Rattle.bus_machine.specs.Steps.{send_change}
use Rattle.secoc_sender.specs.declared.sender.Sent.{Sent}
use Rattle.secoc_sender.specs.declared.sender.SendFault.{SendFault}
use Rattle.secoc_sender.specs.declared.sender.SendFault.TheVariants.{BadLength, Key, Exhausted, Faulted}

-- the route is the one whose counter this is
pub record IsSenderRoute (route : Route) (tx : SenderCounter) : Type 0 where
  pub direction : route.direction ≡ Sends
  pub id : route.id ≡ tx.id
  pub reserve : route.reserve ≡ tx.reserve

-- the first bytes of `after` are the Secured I-PDU of this payload under the key, and its rest is as before
pub record IsSent (key : List ℕ) (id : ℕ) (payload before after : List ℕ) (sent : Sent) : Type 0 where
  pub as_long : sent.len ≡ length payload + 4
  pub secured : Secured key id payload sent.freshness (take sent.len after)
  pub rest : drop sent.len after ≡ drop sent.len before

-- the refusal that the machine knows the answer by, if it is one
abbrev pub refusal_of_send : Result Sent SendFault → Option machine.Refusal
refusal_of_send (Ok sent) = None
refusal_of_send (Err BadLength) = Some refusal.BadLength
refusal_of_send (Err (Key erc)) = Some (refusal.Key erc)
refusal_of_send (Err Exhausted) = Some refusal.Exhausted
refusal_of_send (Err (Faulted bound)) = None

-- the line that tells of the send under this Data ID, whose PDU stands at the beginning of these bytes
abbrev pub line_of_send : ℕ → Result Sent SendFault → List ℕ → line.Line
line_of_send id (Ok sent) out = line.TheVariants.Sent id sent.freshness (take sent.len out)
line_of_send id (Err BadLength) out = Refused refusal.BadLength
line_of_send id (Err (Key erc)) out = Refused (refusal.Key erc)
line_of_send id (Err Exhausted) out = Refused refusal.Exhausted
line_of_send id (Err (Faulted bound)) out = Refused refusal.MemoryFailure

-- the machine's node after the send: its counter rose, and its bound if that was due; or it waits for the bound that
-- was to be put
abbrev pub after_send : Node → ℕ → Result Sent SendFault → Node
after_send node id (Ok sent) =
    with_counter (send_change node (place_of node id Sends)) (place_of node id Sends) sent.freshness node
after_send node id (Err (Faulted bound)) = failed (bound_to (place_of node id Sends) bound) node
after_send node id (Err fault) = node
