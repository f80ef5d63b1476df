-- What an arrival's answer stands for, and when an arrival is forwarded
use Rattle.std.specs.Prelude.{◌≡◌, ℕ, ◌<◌, true, None, Result, Ok, Err, List, take}
use Rattle.cut_disk.specs.Calls.{IsQuiet}
use Rattle.secured_pdu.specs.Verdict as verdict
use Rattle.freshness_routes.specs.declared.routes.Direction.TheVariants.{Sends, Receives}
use Rattle.freshness_routes.specs.Changes.{last_freshness}
use Rattle.secoc_sender.specs.declared.sender.Sent.{Sent}
use Rattle.bus_machine.specs.declared.lines.Line.TheVariants.{FreshnessFailure, VerificationFailure, Refused}
use Rattle.bus_machine.specs.Node.{place_of, route_at, counter_at, route_key}
use Rattle.bus_machine.specs.Steps.{key_refusal}
use Rattle.secoc_node.specs.declared.faults.NodeFault.{NodeFault}
use Rattle.secoc_node.specs.declared.faults.NodeFault.TheVariants as fault
use Rattle.secoc_node.specs.Lines.{refusal_of_fault}
use Rattle.secoc_node.specs.State.{NodeState}
use Rattle.secoc_gateway.specs.declared.gateway_lines.GatewayLine.{GatewayLine}
use Rattle.secoc_gateway.specs.declared.gateway_lines.GatewayLine.TheVariants.{Forwarded, Dropped, OfNode}
use Rattle.secoc_gateway.specs.declared.arrival.Arrival.{Arrival}
use Rattle.secoc_gateway.specs.declared.arrival.Arrival.TheVariants as arrival

-- ---- the line of the machine that an answer stands for

-- of an arrival under the first of these Data IDs, whose payload departs under the second: its PDU is a prefix of
-- `bytes`
abbrev pub arrival_line : (id out : ℕ) → List ℕ → Result Arrival NodeFault → GatewayLine
arrival_line id out bytes (Ok (arrival.Forwarded v sent)) = Forwarded id v out sent.freshness (take sent.len bytes)
arrival_line id out bytes (Ok (arrival.Dropped v fault)) = Dropped id v (refusal_of_fault fault)
arrival_line id out bytes (Ok arrival.FreshnessFailure) = OfNode FreshnessFailure
arrival_line id out bytes (Ok arrival.VerificationFailure) = OfNode VerificationFailure
arrival_line id out bytes (Err fault) = OfNode (Refused (refusal_of_fault fault))

-- ---- what holds at some answers

abbrev pub IfForwarded : Result Arrival NodeFault → (Sent → Type 0) → Type 0
IfForwarded (Ok (arrival.Forwarded v sent)) P = P sent
IfForwarded _ P = Unit {0}

abbrev pub IfNotForwarded : Result Arrival NodeFault → Type 0 → Type 0
IfNotForwarded (Ok (arrival.Forwarded v sent)) P = Unit {0}
IfNotForwarded _ P = P

-- a node that is up, with the route, refuses to send a payload of 1 to 60 bytes for one of these
abbrev pub IsReason : NodeFault → Type 0
IsReason (fault.Key erc) = Unit {0}
IsReason fault.Exhausted = Unit {0}
IsReason fault.Faulted = Unit {0}
IsReason _ = ⊥

abbrev pub IfDropped : Result Arrival NodeFault → (NodeFault → Type 0) → Type 0
IfDropped (Ok (arrival.Dropped v fault)) P = P fault
IfDropped _ P = Unit {0}

-- it was accepted with this freshness, whether or not it was forwarded
abbrev pub IfSpent : Result Arrival NodeFault → (ℕ → Type 0) → Type 0
IfSpent (Ok (arrival.Forwarded v sent)) P = P v
IfSpent (Ok (arrival.Dropped v fault)) P = P v
IfSpent _ P = Unit {0}

-- a call of the disk failed, in the arrival or in the departure
abbrev pub IsFaulted : Result Arrival NodeFault → Type 0
IsFaulted (Ok (arrival.Dropped v fault.Faulted)) = Unit {0}
IsFaulted (Err fault.Faulted) = Unit {0}
IsFaulted _ = ⊥

-- nothing was accepted, and the disk didn't fail
abbrev pub IfNothingDone : Result Arrival NodeFault → Type 0 → Type 0
IfNothingDone (Ok (arrival.Forwarded v sent)) P = Unit {0}
IfNothingDone (Ok (arrival.Dropped v fault)) P = Unit {0}
IfNothingDone (Err fault.Faulted) P = Unit {0}
IfNothingDone _ P = P

-- ---- what is forwarded

-- the node is up over a quiet disk, and both slots are usable. The verdict on the PDU is that it is accepted with this
-- payload and freshness. There is freshness left for the departure
pub record CanForward (s : NodeState) (id out : ℕ) (pdu payload : List ℕ) (v : ℕ) : Type 0 where
  pub is_up : s.node.up ≡ true
  pub quiet : IsQuiet s.store.disk
  pub usable : key_refusal s.node (place_of s.node id Receives) ≡ None
  pub out_usable : key_refusal s.node (place_of s.node out Sends) ≡ None
  pub accepted : verdict.Verdict (route_key s.node (place_of s.node id Receives)) id
      (counter_at s.node (place_of s.node id Receives)) (route_at s.node (place_of s.node id Receives)).window
      pdu (verdict.Accepted payload v)
  pub below : counter_at s.node (place_of s.node out Sends) < last_freshness

-- it was forwarded with these freshnesses
abbrev pub IsForwardedWith : Result Arrival NodeFault → (v w : ℕ) → Type 0
IsForwardedWith (Ok (arrival.Forwarded told sent)) v w = (told ≡ v) × (sent.freshness ≡ w)
IsForwardedWith _ v w = ⊥
