-- What a step leaves of a node, whatever its act: the rows by what they do
use Rattle.std.specs.Prelude.{◌≡◌, ◌≢◌, ℕ, ◌<◌, ◌≤◌, ◌==◌, min, Bool, true, false, not, nat_lt, Option, None, Some, List, [], ◌∷◌, length}
use Rattle.std.proofs.Common.{refl, arith, ◌⊎◌}
use Rattle.std.proofs.lemmas.Bool.Decides.{nat_tests}
use Rattle.freshness_routes.specs.declared.routes.Direction.TheVariants.{Sends, Receives}
use Rattle.freshness_routes.specs.Changes.{last_freshness}
use Rattle.memory_update.specs.declared.messages.Request.{Request}
use Rattle.memory_update.specs.declared.messages.Update.{Update}
use Rattle.memory_update.specs.Loading.{slot_of}
use Rattle.bus_machine.specs.declared.lines.Line.{Line}
use Rattle.bus_machine.specs.declared.lines.Line.TheVariants.{Sent, Accepted, FreshnessFailure, VerificationFailure, Keyed, Loaded, Boot, Up, Armed, NoFrame, Refused}
use Rattle.bus_machine.specs.declared.lines.Refusal.{Refusal}
use Rattle.bus_machine.specs.declared.lines.Refusal.TheVariants.{Down, NoRoute, BadLength, Exhausted, MemoryFailure}
use Rattle.bus_machine.specs.Node.{Node, place_of, counter_at, with_slot, booted, refused_up}
use Rattle.bus_machine.specs.Steps.{Act, sends, receives, loads, keys, boots, cuts, arms, hears_nothing, when, first_of, has_length, key_refusal, send_refusal, receive_refusal, SendsFrame, AcceptsFrame, TakesUpdate, Faults, PowersUp, NodeStep}

pub data Effect (node after : Node) : Type 0 where
  stays : after ≡ node → Effect node after
  sent : (id : ℕ) (payload : List ℕ) (v : ℕ) (pdu : List ℕ) → SendsFrame node id payload v pdu after → Effect node after
  accepted : (id : ℕ) (pdu payload : List ℕ) (v : ℕ) → AcceptsFrame node id pdu payload v after → Effect node after
  took : (request : Request) (u : Update) → TakesUpdate node request u → after ≡ with_slot u.id (slot_of u) node → Effect node after
  decided : (good : Bool) → after ≡ booted good node → Effect node after
  faulted : (act : Act) → Faults node act after → Effect node after
  powers : PowersUp node after → Effect node after
  refused : after ≡ refused_up node → Effect node after

pub effect_of : (node : Node) (act : Act) (line : Line) (after : Node) → NodeStep node act line after → Effect node after
effect_of node (sends id payload) (Sent told v pdu) after step = sent id payload v pdu step.1
effect_of node (sends id payload) (Refused MemoryFailure) after step = faulted (sends id payload) step
effect_of node (sends id payload) (Refused refusal) after step = stays step.1
effect_of node (receives id pdu) (Accepted told v payload source) after step = accepted id pdu payload v step.1
effect_of node (receives id pdu) FreshnessFailure after step = stays step.1
effect_of node (receives id pdu) VerificationFailure after step = stays step.1
effect_of node (receives id pdu) (Refused MemoryFailure) after step = faulted (receives id pdu) step
effect_of node (receives id pdu) (Refused refusal) after step = stays step.1
effect_of node (loads request) (Loaded reply) after step = took request step.0 step.1 step.3
effect_of node (loads request) (Refused MemoryFailure) after step = faulted (loads request) step
effect_of node (loads request) (Refused refusal) after step = stays step.1
effect_of node (keys update authkey) (Keyed slot) after step = took step.0 step.2.0 step.2.1 step.2.3
effect_of node (keys update authkey) (Refused MemoryFailure) after step = faulted (keys update authkey) step
effect_of node (keys update authkey) (Refused refusal) after step = stays step.3
effect_of node (boots image) (Boot good) after step = decided good step.after_is
effect_of node (boots image) (Refused refusal) after step = stays step.1
effect_of node cuts Up after step = powers step
effect_of node cuts (Refused MemoryFailure) after step = refused step
effect_of node arms Armed after step = stays step
effect_of node hears_nothing NoFrame after step = stays step
effect_of node _ _ after step = absurd step

-- ---- if no refusal applies

pub first_none : (x : Option Refusal) (xs : List (Option Refusal)) → first_of (x ∷ xs) ≡ None → (x ≡ None) × (first_of xs ≡ None)
first_none None xs e = (refl, e)
first_none (Some x) xs e = cc

pub when_none : (b : Bool) (x : Refusal) → when b x ≡ None → b ≡ false
when_none true x e = cc
when_none false x e = refl

not_false : (b : Bool) → not b ≡ false → b ≡ true
not_false true e = refl
not_false false e = cc

pub lt_of_test : (a b : ℕ) → nat_lt a b ≡ true → a < b
lt_of_test a b e = grind (arith, nat_tests)

pub not_lt_of_test : (a b : ℕ) → nat_lt a b ≡ false → b ≤ a
not_lt_of_test a b e = grind (arith, nat_tests)

pub ne_of_test : (a b : ℕ) → (a == b) ≡ false → a ≢ b
ne_of_test a b e = grind (arith, nat_tests)

-- a call for route k that is refused for nothing of the route
pub record Routed (node : Node) (k : ℕ) : Type 0 where
  pub up : node.up ≡ true
  pub inside : k < length node.config.routes
  pub usable : key_refusal node k ≡ None

-- the rest of the refusals after those of the route
routed_by : (node : Node) (k : ℕ) (good : Bool) (rest : List (Option Refusal))
    → first_of (when (not node.up) Down ∷ when (not (nat_lt k (length node.config.routes))) NoRoute ∷ when (not good) BadLength ∷ key_refusal node k ∷ rest) ≡ None
    → Routed node k × (first_of rest ≡ None)
routed_by node k good rest e =
    let inside : Bool = nat_lt k (length node.config.routes) in
    let a = first_none (when (not node.up) Down) (when (not inside) NoRoute ∷ when (not good) BadLength ∷ key_refusal node k ∷ rest) e in
    let b = first_none (when (not inside) NoRoute) (when (not good) BadLength ∷ key_refusal node k ∷ rest) a.1 in
    let c = first_none (when (not good) BadLength) (key_refusal node k ∷ rest) b.1 in
    let d = first_none (key_refusal node k) rest c.1 in (
      record {
        up = not_false node.up (when_none (not node.up) Down a.0);
        inside = lt_of_test k (length node.config.routes) (not_false inside (when_none (not inside) NoRoute b.0));
        usable = d.0;
      },
      d.1,
    )

pub routed : (node : Node) (id : ℕ) (pdu : List ℕ) → receive_refusal node id pdu ≡ None → Routed node (place_of node id Receives)
routed node id pdu e = (routed_by node (place_of node id Receives) (has_length 5 64 pdu) [] e).0

pub send_routed : (node : Node) (id : ℕ) (payload : List ℕ) → send_refusal node id payload ≡ None
    → Routed node (place_of node id Sends) × (counter_at node (place_of node id Sends) ≢ last_freshness)
send_routed node id payload e =
    let k : ℕ = place_of node id Sends in
    let full : Bool = counter_at node k == last_freshness in
    let r = routed_by node k (has_length 1 60 payload) (when full Exhausted ∷ []) e in
    (r.0, ne_of_test (counter_at node k) last_freshness (when_none full Exhausted (first_none (when full Exhausted) [] r.1).0))

pub min_is : (a b : ℕ) → (min a b ≤ a) × (min a b ≤ b) × ((min a b ≡ a) ⊎ (min a b ≡ b))
min_is a b = (grind (arith, nat_tests), grind (arith, nat_tests), grind (arith, nat_tests))
