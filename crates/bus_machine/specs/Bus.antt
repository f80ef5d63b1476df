-- The bus: its nodes, and what was sent on it
use Rattle.std.specs.Prelude.{◌≡◌, ℕ, ◌+◌, ◌<◌, ◌⊎◌, ◌&&◌, ◌==◌, bytes_eq, Option, None, Some, List, [], ◌∷◌, ◌++◌}
use Rattle.std.specs.Prelude.{length, map, find, option_map, slice_index_or}
use Rattle.machine_runs.specs.Run.{Moment, Run}
use Rattle.machine_runs.specs.Members.{MemberSteps}
use Rattle.freshness_routes.specs.declared.routes.Direction.TheVariants.{Sends}
use Rattle.freshness_routes.specs.Config.{Config, IsConfig}
use Rattle.bus_machine.specs.declared.events.Event.{Event}
use Rattle.bus_machine.specs.declared.events.Event.TheVariants.{Send, Deliver, Inject, Load, Key, Boot, Cut, Stop, Fail}
use Rattle.bus_machine.specs.declared.lines.Line.{Line}
use Rattle.bus_machine.specs.declared.lines.Line.TheVariants.{Sent, Accepted}
use Rattle.bus_machine.specs.Node.{Node, first_node, HasRoute}
use Rattle.bus_machine.specs.Sound.{Sound}
use Rattle.bus_machine.specs.Steps.{Act, sends, receives, loads, keys, boots, cuts, arms, hears_nothing, NodeStep}

-- a line that was sent, with the number of its event
pub record SentLine : Type 0 where
  pub number : ℕ
  pub id : ℕ
  pub payload : List ℕ
  pub freshness : ℕ
  pub pdu : List ℕ

-- the nodes, the number of events so far, and the sent lines so far
pub record World : Type 0 where
  pub nodes : List Node
  pub events : ℕ
  pub sent : List SentLine

-- the first world of a bus, which is given by the configurations of its nodes
abbrev pub First : List Config → World
First bus = record { nodes = map first_node bus; events = 0; sent = [] }

-- a world without nodes, in which nothing was sent, so that nothing can be delivered: what a node is in that is on no
-- bus
abbrev pub silent_world : World
silent_world = record { nodes = []; events = 0; sent = [] }

-- ---- what an event tells its node to do

abbrev pub node_of : Event → ℕ
node_of (Send node id payload) = node
node_of (Deliver node event) = node
node_of (Inject node id pdu) = node
node_of (Load node request) = node
node_of (Key node update authkey) = node
node_of (Boot node image) = node
node_of (Cut node torn) = node
node_of (Stop node calls) = node
node_of (Fail node calls) = node

-- a sent line that was looked for is received, if there is one
abbrev pub hearing : Option SentLine → Act
hearing None = hears_nothing
hearing (Some s) = receives s.id s.pdu

abbrev pub act_of : World → Event → Act
act_of world (Send node id payload) = sends id payload
act_of world (Deliver node event) = hearing (find (λ s. s.number == event) world.sent)
act_of world (Inject node id pdu) = receives id pdu
act_of world (Load node request) = loads request
act_of world (Key node update authkey) = keys update authkey
act_of world (Boot node image) = boots image
act_of world (Cut node torn) = cuts
act_of world (Stop node calls) = arms
act_of world (Fail node calls) = arms

-- ---- the step of the bus

-- the sent lines after this event
abbrev pub sent_after : World → Event → Line → List SentLine
sent_after world (Send node id payload) (Sent told v pdu) =
    world.sent ++ record { number = world.events + 1; id = told; payload = payload; freshness = v; pdu = pdu } ∷ []
sent_after world _ _ = world.sent

-- the number of the earliest sent line with this Data ID, payload and freshness
abbrev pub source_of : World → ℕ → List ℕ → ℕ → Option ℕ
source_of world id payload v =
    option_map (λ s. s.number) (find (λ s. (s.id == id) && bytes_eq s.payload payload && (s.freshness == v)) world.sent)

-- an accepted line names it
abbrev pub NamesSource : World → Line → Type 0
NamesSource world (Accepted id v payload source) = source ≡ source_of world id payload v
NamesSource world _ = Unit {0}

-- the event's node does its act, the others are as before, and a sent line is put down with the event's number
pub record Step (world : World) (event : Event) (line : Line) (after : World) : Type 0 where
  pub one : MemberSteps NodeStep world.nodes (node_of event) (act_of world event) line after.nodes
  pub source : NamesSource world line
  pub events : after.events ≡ world.events + 1
  pub sent : after.sent ≡ sent_after world event line

-- ---- runs

abbrev pub Instant : Type 0
Instant = Moment Event Line World

-- the moments of a run of the bus: each is an event, its line, and the world after it
abbrev pub Moments : Type 0
Moments = List Instant

abbrev pub BusRun : List Config → Moments → World → Type 0
BusRun bus = Run Step (First bus)

-- the world after these moments
abbrev pub state_after : World → Moments → World
state_after start [] = start
state_after start (m ∷ ms) = state_after m.after ms

-- at some moment this holds of the world before it and of the moment
abbrev pub AtSome : (World → Instant → Type 0) → World → Moments → Type 0
AtSome P before [] = ⊥
AtSome P before (m ∷ ms) = P before m ⊎ AtSome P m.after ms

-- ---- the nodes of a world

-- the configuration and the node at a place; past the last one without routes
abbrev pub no_config : Config
no_config = record { uid = []; routes = [] }

abbrev pub config_at : List Config → ℕ → Config
config_at bus i = slice_index_or bus i no_config

abbrev pub node_at : World → ℕ → Node
node_at world i = slice_index_or world.nodes i (first_node no_config)

abbrev pub SoundBus : World → Type 0
SoundBus world = (i : ℕ) → i < length world.nodes → Sound (node_at world i)

-- a bus: configurations as the code has them, and no two of them send one Data ID
pub record IsBus (bus : List Config) : Type 0 where
  pub configs : (i : ℕ) → i < length bus → IsConfig (config_at bus i)
  pub one_sender : (i j id : ℕ) → i < length bus → j < length bus
      → HasRoute (first_node (config_at bus i)) id Sends → HasRoute (first_node (config_at bus j)) id Sends → i ≡ j
