-- How much freshness a power cut may skip
use Rattle.std.specs.Prelude.{◌≡◌, ◌≢◌, ℕ, ◌+◌, ◌-◌, ◌<◌, ◌≤◌, ◌⊎◌, List, ◌∷◌, ◌++◌, length, All}
use Rattle.secured_pdu.specs.Verdict as verdict
use Rattle.freshness_routes.specs.declared.routes.Direction.TheVariants.{Sends, Receives}
use Rattle.bus_machine.specs.declared.lines.Line.TheVariants.{Up, Refused}
use Rattle.bus_machine.specs.declared.lines.Refusal.TheVariants.{MemoryFailure}
use Rattle.bus_machine.specs.Node.{Node, Change, bound_to, route_at, counter_at}
use Rattle.bus_machine.specs.Steps.{Act, receives, JudgesFrame, Makes}
use Rattle.bus_machine.specs.Bus.{World, Instant, Moments, node_of, node_at, act_of, state_after}

-- the call of node i that failed with this change to be made, since when the node didn't power up
pub record FailedCall (start : World) (ms : Moments) (i : ℕ) (change : Change) : Type 0 where
  pub done : Moments
  pub call : Instant
  pub rest : Moments
  pub all : ms ≡ done ++ call ∷ rest
  pub node_is : node_of call.command ≡ i
  pub line_is : call.line ≡ Refused MemoryFailure
  pub makes : Makes (node_at (state_after start done) i) (act_of (state_after start done) call.command) change
  pub no_power : All (λ m. node_of m.command ≡ i → m.line ≢ Up) rest

-- the act is to accept this freshness
abbrev pub ToAccept : Node → Act → ℕ → Type 0
ToAccept node (receives id pdu) v = (payload : List ℕ) × JudgesFrame node id pdu (verdict.Accepted payload v)
ToAccept node _ v = ⊥

-- the call of route k of node i that failed was to accept this freshness
pub record FailedAccept (start : World) (ms : Moments) (i k v : ℕ) : Type 0 where
  pub bound : ℕ
  pub call : FailedCall start ms i (bound_to k bound)
  pub accepts : ToAccept (node_at (state_after start call.done) i)
      (act_of (state_after start call.done) call.call.command) v

-- a sender skips at most its reserve
abbrev pub SenderSkips : Node → Node → ℕ → Type 0
SenderSkips before after k =
    (route_at before k).direction ≡ Sends → counter_at after k ≤ counter_at before k + (route_at before k).reserve

-- a receiver skips less than its reserve, from its counter or from the freshness of the PDU whose call failed
abbrev pub ReceiverSkips : World → Moments → ℕ → Node → Node → ℕ → Type 0
ReceiverSkips start ms i before after k =
    (route_at before k).direction ≡ Receives
    → (counter_at after k ≤ counter_at before k + (route_at before k).reserve - 1)
    ⊎ ((v : ℕ) × FailedAccept start ms i k v × (counter_at after k ≤ v + (route_at before k).reserve - 1))

-- a power-up after these moments, which left the world `now`
abbrev pub SkipsLittle : World → Moments → World → Instant → Type 0
SkipsLittle start ms now m =
    let i = node_of m.command in
    m.line ≡ Up → (k : ℕ) → k < length (node_at now i).config.routes
    → SenderSkips (node_at now i) (node_at m.after i) k × ReceiverSkips start ms i (node_at now i) (node_at m.after i) k
