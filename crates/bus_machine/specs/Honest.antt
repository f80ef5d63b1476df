-- A PDU that was sent and comes in time is accepted
use Rattle.std.specs.Prelude.{◌≡◌, ℕ, ◌+◌, ◌<◌, ◌≤◌, ◌==◌, true, None, Some, find}
use Rattle.secured_pdu.specs.Frame.{Secured}
use Rattle.freshness_routes.specs.declared.routes.Direction.TheVariants.{Receives}
use Rattle.bus_machine.specs.declared.lines.Line.{Line}
use Rattle.bus_machine.specs.declared.lines.Line.TheVariants.{Accepted, Refused}
use Rattle.bus_machine.specs.declared.lines.Refusal.TheVariants.{MemoryFailure}
use Rattle.bus_machine.specs.Node.{Node, HasRoute, place_of, route_at, counter_at, route_key}
use Rattle.bus_machine.specs.Steps.{key_refusal}
use Rattle.bus_machine.specs.Bus.{World, SentLine, Moments, AtSome}
use Rattle.bus_machine.specs.Authentic.{SentAs}

-- the node is up and has a route for the sent line. The route's key is usable and secures the line's PDU. The line's
-- freshness is 1 to the route's window above the counter
pub record IsInTime (node : Node) (s : SentLine) (route : ℕ) : Type 0 where
  pub is_up : node.up ≡ true
  pub has_route : HasRoute node s.id Receives
  pub usable : key_refusal node route ≡ None
  pub secured : Secured (route_key node route) s.id s.payload s.freshness s.pdu
  pub above : counter_at node route < s.freshness
  pub near : s.freshness ≤ counter_at node route + (route_at node route).window

-- the event of this number sent the line, and the node that is to receive it does so in time
pub record HonestDelivery (world : World) (node : Node) (number : ℕ) (s : SentLine) : Type 0 where
  pub found : find (λ s. s.number == number) world.sent ≡ Some s
  pub in_time : IsInTime node s (place_of node s.id Receives)

-- the same, if the receiver's slot holds the key that the sender's slot held at the send: that the key secures the PDU
-- follows
pub record SameKeyDelivery (start : World) (ms : Moments) (world : World) (node : Node) (number : ℕ)
    (s : SentLine) : Type 0 where
  pub found : find (λ s. s.number == number) world.sent ≡ Some s
  pub is_up : node.up ≡ true
  pub has_route : HasRoute node s.id Receives
  pub usable : key_refusal node (place_of node s.id Receives) ≡ None
  pub same_key : AtSome (SentAs s (route_key node (place_of node s.id Receives))) start ms
  pub above : counter_at node (place_of node s.id Receives) < s.freshness
  pub near : s.freshness
      ≤ counter_at node (place_of node s.id Receives) + (route_at node (place_of node s.id Receives)).window

-- the line's payload is accepted with its freshness, or the disk failed
abbrev pub IsHeard : SentLine → Line → Type 0
IsHeard s (Accepted told v payload source) = (told ≡ s.id) × (v ≡ s.freshness) × (payload ≡ s.payload)
IsHeard s (Refused MemoryFailure) = Unit {0}
IsHeard s _ = ⊥
