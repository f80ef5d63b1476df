-- Freshness that is sent and accepted only ever rises
use Rattle.std.specs.Prelude.{◌≡◌, ℕ, ◌<◌, ◌≤◌, All, AllPairs}
use Rattle.freshness_routes.specs.declared.routes.Direction.{Direction}
use Rattle.freshness_routes.specs.declared.routes.Direction.TheVariants.{Sends, Receives}
use Rattle.bus_machine.specs.declared.lines.Line.{Line}
use Rattle.bus_machine.specs.declared.lines.Line.TheVariants.{Sent, Accepted}
use Rattle.bus_machine.specs.Node.{Node, HasRoute, place_of, bound_at, counter_at}
use Rattle.bus_machine.specs.Bus.{World, Moments, node_of, node_at}

-- if both lines are accepted, and of one Data ID, the later has the greater freshness
abbrev pub AcceptedRises : Line → Line → Type 0
AcceptedRises (Accepted id v payload source) (Accepted id' v' payload' source') = id ≡ id' → v < v'
AcceptedRises _ _ = Unit {0}

-- of two accepted lines of one node and one Data ID, the later has the greater freshness
abbrev pub Rising : Moments → Type 0
Rising = AllPairs (λ m n. node_of m.command ≡ node_of n.command → AcceptedRises m.line n.line)

abbrev pub SentRises : Line → Line → Type 0
SentRises (Sent id v pdu) (Sent id' v' pdu') = id ≡ id' → v < v'
SentRises _ _ = Unit {0}

-- of two sent lines of one Data ID, the later has the greater freshness
abbrev pub Single : Moments → Type 0
Single = AllPairs (λ m n. SentRises m.line n.line)

-- ---- the invariant after both

-- the line says that this freshness was sent or accepted under this Data ID
abbrev pub Tells : Direction → Line → ℕ → ℕ → Type 0
Tells Sends (Sent told w pdu) id v = (told ≡ id) × (w ≡ v)
Tells Receives (Accepted told w payload source) id v = (told ≡ id) × (w ≡ v)
Tells _ _ id v = ⊥

-- the node has such a route, and the freshness is at most its kept bound, and at most its counter
pub record Covered (node : Node) (direction : Direction) (id v : ℕ) : Type 0 where
  pub route : HasRoute node id direction
  pub kept : v ≤ bound_at node (place_of node id direction)
  pub counted : v ≤ counter_at node (place_of node id direction)

-- all freshness that was sent or accepted so far is covered, whether the node is up or down
abbrev pub AllCovered : Moments → World → Type 0
AllCovered ms now =
    All (λ m. (direction : Direction) (id v : ℕ) → Tells direction m.line id v
    → Covered (node_at now (node_of m.command)) direction id v) ms
