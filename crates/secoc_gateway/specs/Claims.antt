-- What is claimed of the lines of a gateway's run
use Rattle.std.specs.Prelude.{◌≡◌, ℕ, ◌<◌, None, Some, List, [], ◌∷◌, AllPairs}
use Rattle.secured_pdu.specs.Frame.{Secured}
use Rattle.freshness_routes.specs.declared.routes.Direction.{Direction}
use Rattle.freshness_routes.specs.declared.routes.Direction.TheVariants.{Sends, Receives}
use Rattle.bus_machine.specs.declared.events.Event.{Event}
use Rattle.bus_machine.specs.declared.events.Event.TheVariants.{Inject}
use Rattle.bus_machine.specs.Node.{Node, place_of, route_key}
use Rattle.bus_machine.specs.Steps.{key_refusal}
use Rattle.bus_machine.specs.Bus.{node_of}
use Rattle.bus_machine.specs.Freshness.{Tells}
use Rattle.secoc_gateway.specs.declared.gateway_lines.GatewayLine.{GatewayLine}
use Rattle.secoc_gateway.specs.declared.gateway_lines.GatewayLine.TheVariants.{Forwarded, Dropped, OfNode}
use Rattle.secoc_gateway.specs.Gateway.{second_of, GatewayMoments}

-- ---- what is forwarded

-- under this Data ID the event brought a PDU that is secured with this payload and freshness under its route's key,
-- usable
pub record Brought (node : Node) (event : Event) (id v : ℕ) (payload : List ℕ) : Type 0 where
  pub pdu : List ℕ
  pub event_is : event ≡ Inject (node_of event) id pdu
  pub usable : key_refusal node (place_of node id Receives) ≡ None
  pub secured : Secured (route_key node (place_of node id Receives)) id payload v pdu

-- this PDU is secured with this payload and freshness, under the key that the slot of the route with this Data ID held,
-- usable
pub record Departed (node : Node) (out w : ℕ) (payload pdu : List ℕ) : Type 0 where
  pub usable : key_refusal node (place_of node out Sends) ≡ None
  pub secured : Secured (route_key node (place_of node out Sends)) out payload w pdu

-- of the node just before: what was forwarded is the payload that this event brought; what was dropped had been brought
abbrev pub ForwardsRight : List (ℕ × ℕ) → Node → Event → GatewayLine → Type 0
ForwardsRight pairs node event (Forwarded id v out w pdu) =
    (second_of pairs id ≡ Some out)
    × ((payload : List ℕ) × Brought node event id v payload × Departed node out w payload pdu)
ForwardsRight pairs node event (Dropped id v refusal) = (payload : List ℕ) × Brought node event id v payload
ForwardsRight pairs node event (OfNode line) = Unit {0}

abbrev pub AllForwardRight : List (ℕ × ℕ) → Node → GatewayMoments → Type 0
AllForwardRight pairs node [] = Unit {0}
AllForwardRight pairs node (m ∷ ms) = ForwardsRight pairs node m.command m.line × AllForwardRight pairs m.after ms

-- ---- freshness

-- the line tells that this freshness arrived, or departed, under this Data ID
abbrev pub TellsFreshness : Direction → GatewayLine → ℕ → ℕ → Type 0
TellsFreshness Receives (Forwarded told w out x pdu) id v = (told ≡ id) × (w ≡ v)
TellsFreshness Sends (Forwarded told w out x pdu) id v = (out ≡ id) × (x ≡ v)
TellsFreshness Receives (Dropped told w refusal) id v = (told ≡ id) × (w ≡ v)
TellsFreshness Sends (Dropped told w refusal) id v = ⊥
TellsFreshness direction (OfNode line) id v = Tells direction line id v

-- of two lines that tell freshness of one Data ID, the later tells the greater
abbrev pub FreshnessRises : Direction → GatewayMoments → Type 0
FreshnessRises direction =
    AllPairs (λ m n. (id v w : ℕ) → TellsFreshness direction m.line id v → TellsFreshness direction n.line id w → v < w)
