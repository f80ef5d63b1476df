-- An accepted PDU carries the CMAC of its payload and freshness under the receiver's key
use Rattle.std.specs.Prelude.{◌≡◌, ℕ, ◌+◌, Option, None, Some, List, ◌∷◌, ◌++◌}
use Rattle.secured_pdu.specs.Frame.{Secured}
use Rattle.freshness_routes.specs.declared.routes.Direction.TheVariants.{Sends, Receives}
use Rattle.bus_machine.specs.declared.events.Event.TheVariants.{Send}
use Rattle.bus_machine.specs.declared.lines.Line.{Line}
use Rattle.bus_machine.specs.declared.lines.Line.TheVariants.{Sent, Accepted}
use Rattle.bus_machine.specs.Node.{Node, place_of, route_key}
use Rattle.bus_machine.specs.Steps.{receives, key_refusal}
use Rattle.bus_machine.specs.Bus.{World, SentLine, Instant, Moments, node_of, node_at, act_of, source_of, state_after}
use Rattle.bus_machine.specs.Bus.{AtSome}

-- the moment sent this line, with its payload, while the slot of its route held this key
abbrev pub SentAs : SentLine → List ℕ → World → Instant → Type 0
SentAs s key before m =
    let node = node_at before (node_of m.command) in
    (m.command ≡ Send (node_of m.command) s.id s.payload)
    × (m.line ≡ Sent s.id s.freshness s.pdu)
    × (s.number ≡ before.events + 1)
    × (key ≡ route_key node (place_of node s.id Sends))

-- the event of this number sent this payload with this freshness under this Data ID; if its slot held the receiver's
-- key, the PDU that was received is the sent one, byte for byte
pub record WasSent (start : World) (done : Moments) (number id v : ℕ) (payload receiver_key pdu : List ℕ) : Type 0 where
  pub sent : SentLine
  pub key : List ℕ
  pub number_is : sent.number ≡ number
  pub id_is : sent.id ≡ id
  pub payload_is : sent.payload ≡ payload
  pub freshness_is : sent.freshness ≡ v
  pub was_sent : AtSome (SentAs sent key) start done
  pub same : key ≡ receiver_key → sent.pdu ≡ pdu

-- what was received is secured under the key that the receiving route's slot held, usable, just before; `from` is the
-- earliest event that sent the same
pub record AcceptedRight (start : World) (done : Moments) (before : World) (m : Instant) (node : Node) (route id v : ℕ)
    (payload : List ℕ) (source : Option ℕ) : Type 0 where
  pub pdu : List ℕ
  pub received : act_of before m.command ≡ receives id pdu
  pub usable : key_refusal node route ≡ None
  pub secured : Secured (route_key node route) id payload v pdu
  pub from : source ≡ source_of before id payload v
  pub names : (number : ℕ) → source ≡ Some number → WasSent start done number id v payload (route_key node route) pdu

-- a moment after those done
abbrev pub RightLine : World → Moments → Instant → Line → Type 0
RightLine start done m (Accepted id v payload source) =
    let before = state_after start done in
    let node = node_at before (node_of m.command) in
    AcceptedRight start done before m node (place_of node id Receives) id v payload source
RightLine start done m _ = Unit {0}

abbrev pub Authentic : World → Moments → Type 0
Authentic start ms =
    (done : Moments) (m : Instant) (rest : Moments) → ms ≡ done ++ m ∷ rest → RightLine start done m m.line
