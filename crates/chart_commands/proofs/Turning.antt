-- How the life of a node turns in a step: by its line, and not at all by another node's
use Rattle.std.specs.Prelude.{◌≡◌, ℕ, ◌<◌, ◌==◌, Bool, true, false, cond, not, Option, None, Some, List, [], ◌∷◌, length, get_or, set, option_map}
use Rattle.std.proofs.Common.{refl, sym, ◌∙◌, ap, subst, inl, inr, get_or-set_same, get_or-set_other}
use Rattle.std.proofs.lemmas.Bool.Decides.{eqb_tells}
use Rattle.std.proofs.lemmas.Option.{get_or_from_slice_get}
use Rattle.key_slots.specs.declared.refusals.Erc.{Erc}
use Rattle.key_slots.specs.declared.memory.Slot.{Slot}
use Rattle.key_slots.specs.declared.usage.Purpose.TheVariants.{Mac}
use Rattle.key_slots.specs.Usage.{usable}
use Rattle.memory_update.specs.declared.messages.Request.{Request}
use Rattle.freshness_routes.specs.declared.routes.Route.{Route}
use Rattle.freshness_routes.specs.declared.routes.Direction.TheVariants.{Sends, Receives}
use Rattle.freshness_routes.specs.Changes.{last_freshness}
use Rattle.machine_runs.specs.Members.{MemberSteps}
use Rattle.machine_runs.proofs.CallerLemmas.{MemberSteps-length}
use Rattle.bus_machine.specs.declared.events.Event.{Event}
use Rattle.bus_machine.specs.declared.lines.Line.{Line}
use Rattle.bus_machine.specs.declared.lines.Line.TheVariants.{Sent, Accepted, FreshnessFailure, VerificationFailure, Keyed, Loaded, Boot, Up, Armed, NoFrame, Refused}
use Rattle.bus_machine.specs.declared.lines.Refusal.{Refusal}
use Rattle.bus_machine.specs.declared.lines.Refusal.TheVariants.{Down, NoRoute, BadLength, Key, Exhausted, MemoryFailure}
use Rattle.bus_machine.specs.Node.{Node, first_node, place_of, route_at, counter_at}
use Rattle.bus_machine.specs.Steps.{Act, sends, receives, loads, keys, boots, cuts, arms, hears_nothing, when, first_of, has_length, has_route, mac_refusal, sender_refusals, receiver_refusals, send_refusal, receive_refusal, RefusesUpdate, RefusesBoot, NodeStep}
use Rattle.bus_machine.specs.Bus.{World, no_config, node_of, act_of, node_at, Step}
use Rattle.chart_commands.specs.declared.lifelines.LifeTurn.{LifeTurn}
use Rattle.chart_commands.specs.declared.lifelines.LifeTurn.TheVariants.{Falls, Rises}
use Rattle.chart_commands.specs.Lifelines.{refusal_turn, line_turn, life_turn}

-- whether a node is up, before and after a turn
abbrev pub TurnsTo : Option LifeTurn → Bool → Bool → Type 0
TurnsTo None before after = after ≡ before
TurnsTo (Some Falls) before after = after ≡ false
TurnsTo (Some Rises) before after = after ≡ true

-- ---- refusals that leave a node as it is

abbrev Harmless : Option Refusal → Type 0
Harmless None = Unit {0}
Harmless (Some refusal) = refusal_turn refusal ≡ None

abbrev AllHarmless : List (Option Refusal) → Type 0
AllHarmless [] = Unit {0}
AllHarmless (x ∷ xs) = Harmless x × AllHarmless xs

first_harmless : (xs : List (Option Refusal)) (refusal : Refusal) → AllHarmless xs → first_of xs ≡ Some refusal → refusal_turn refusal ≡ None
first_harmless [] refusal all e = cc
first_harmless (None ∷ xs) refusal all e = first_harmless xs refusal all.1 e
first_harmless (Some x ∷ xs) refusal all e =
    let same : x ≡ refusal = cc in
    subst (λ (r : Refusal). refusal_turn r ≡ None) same all.0

when_harmless : (b : Bool) (refusal : Refusal) → refusal_turn refusal ≡ None → Harmless (when b refusal)
when_harmless true refusal e = e
when_harmless false refusal e = tt

key_harmless : (o : Option Erc) → Harmless (option_map Key o)
key_harmless None = tt
key_harmless (Some erc) = refl

mac_harmless : (slots : List Slot) (good : Bool) (route : Route) → Harmless (mac_refusal slots good route)
mac_harmless slots good route = key_harmless (usable slots route.slot good Mac)

send_harmless : (node : Node) (id : ℕ) (payload : List ℕ) (refusal : Refusal) → send_refusal node id payload ≡ Some refusal → refusal_turn refusal ≡ None
send_harmless node id payload refusal e =
    let k : ℕ = place_of node id Sends in
    first_harmless
    (when (not node.up) Down ∷ when (not (has_route node id Sends)) NoRoute
    ∷ sender_refusals node.kept.slots _ (route_at node k) (counter_at node k) payload)
    refusal (
      when_harmless (not node.up) Down refl,
      (
        when_harmless (not (has_route node id Sends)) NoRoute refl,
        (
          when_harmless (not (has_length 1 60 payload)) BadLength refl,
          (
            mac_harmless node.kept.slots _ (route_at node k),
            (when_harmless (counter_at node k == last_freshness) Exhausted refl, tt),
          ),
        ),
      ),
    )
    e

receive_harmless : (node : Node) (id : ℕ) (pdu : List ℕ) (refusal : Refusal) → receive_refusal node id pdu ≡ Some refusal → refusal_turn refusal ≡ None
receive_harmless node id pdu refusal e =
    let k : ℕ = place_of node id Receives in
    first_harmless
    (when (not node.up) Down ∷ when (not (has_route node id Receives)) NoRoute
    ∷ receiver_refusals node.kept.slots _ (route_at node k) pdu)
    refusal (
      when_harmless (not node.up) Down refl,
      (
        when_harmless (not (has_route node id Receives)) NoRoute refl,
        (
          when_harmless (not (has_length 5 64 pdu)) BadLength refl,
          (mac_harmless node.kept.slots _ (route_at node k), tt),
        ),
      ),
    )
    e

update_harmless : (node : Node) (request : Request) (refusal : Refusal) → RefusesUpdate node request refusal → refusal_turn refusal ≡ None
update_harmless node request Down step = refl
update_harmless node request (Key erc) step = refl
update_harmless node request _ step = absurd step

boot_harmless : (node : Node) (image : List ℕ) (refusal : Refusal) → RefusesBoot node image refusal → refusal_turn refusal ≡ None
boot_harmless node image Down step = refl
boot_harmless node image (Key erc) step = refl
boot_harmless node image _ step = absurd step

-- ---- a step of a node

is_as_before : (refusal : Refusal) (node after : Node) → refusal_turn refusal ≡ None → after ≡ node → TurnsTo (refusal_turn refusal) node.up after.up
is_as_before refusal node after none same =
    subst (λ (turn : Option LifeTurn). TurnsTo turn node.up after.up) (sym none) (ap (λ (n : Node). n.up) same)

node_turns : (node : Node) (act : Act) (line : Line) (after : Node) → NodeStep node act line after → TurnsTo (line_turn line) node.up after.up
node_turns node (sends id payload) (Sent told v pdu) after step = ap (λ (n : Node). n.up) step.1.after_is
node_turns node (sends id payload) (Refused MemoryFailure) after step = ap (λ (n : Node). n.up) step.2
node_turns node (sends id payload) (Refused refusal) after step =
    is_as_before refusal node after (send_harmless node id payload refusal step.0) step.1
node_turns node (receives id pdu) (Accepted told v payload source) after step = ap (λ (n : Node). n.up) step.1.after_is
node_turns node (receives id pdu) FreshnessFailure after step = ap (λ (n : Node). n.up) step.1
node_turns node (receives id pdu) VerificationFailure after step = ap (λ (n : Node). n.up) step.1
node_turns node (receives id pdu) (Refused MemoryFailure) after step = ap (λ (n : Node). n.up) step.2
node_turns node (receives id pdu) (Refused refusal) after step =
    is_as_before refusal node after (receive_harmless node id pdu refusal step.0) step.1
node_turns node (loads request) (Loaded reply) after step = ap (λ (n : Node). n.up) step.3
node_turns node (loads request) (Refused MemoryFailure) after step = ap (λ (n : Node). n.up) step.2
node_turns node (loads request) (Refused refusal) after step =
    is_as_before refusal node after (update_harmless node request refusal step.0) step.1
node_turns node (keys update authkey) (Keyed slot) after step = ap (λ (n : Node). n.up) step.2.3
node_turns node (keys update authkey) (Refused MemoryFailure) after step = ap (λ (n : Node). n.up) step.2
node_turns node (keys update authkey) (Refused refusal) after step =
    is_as_before refusal node after (update_harmless node step.0 refusal step.2) step.3
node_turns node (boots image) (Boot good) after step = ap (λ (n : Node). n.up) step.after_is
node_turns node (boots image) (Refused refusal) after step =
    is_as_before refusal node after (boot_harmless node image refusal step.0) step.1
node_turns node cuts Up after (inl e) = ap (λ (n : Node). n.up) e
node_turns node cuts Up after (inr c) = ap (λ (n : Node). n.up) c.2
node_turns node cuts (Refused MemoryFailure) after step = ap (λ (n : Node). n.up) step
node_turns node arms Armed after step = ap (λ (n : Node). n.up) step
node_turns node hears_nothing NoFrame after step = ap (λ (n : Node). n.up) step
node_turns node _ _ after step = absurd step

-- ---- a step of a bus

-- whether the node at this place is up
abbrev pub up_in : World → ℕ → Bool
up_in world node = (node_at world node).up

pub bus_turns : (world : World) (event : Event) (line : Line) (after : World) (node : ℕ) → node < length world.nodes → Step world event line after
    → TurnsTo (life_turn node event line) (up_in world node) (up_in after node)
bus_turns world event line after node inside step =
    let one : MemberSteps NodeStep world.nodes (node_of event) (act_of world event) line after.nodes = step.one in
    elim (eqb_tells (node_of event) node) [
      | inl same ↦
          let was : node_at world node ≡ one.before =
          subst (λ (i : ℕ). node_at world i ≡ one.before) same.1 (get_or_from_slice_get world.nodes (node_of event) one.before (first_node no_config) one.was) in
          let is : node_at after node ≡ one.after =
          ap (λ (ns : List Node). get_or ns node (first_node no_config)) one.others
          ∙ subst (λ (i : ℕ). get_or (set world.nodes i one.after) node (first_node no_config) ≡ one.after) (sym same.1)
          (get_or-set_same world.nodes node one.after (first_node no_config) inside) in
          let turned : TurnsTo (line_turn line) one.before.up one.after.up =
          node_turns one.before (act_of world event) line one.after one.step in
          subst (λ (b : Bool). TurnsTo (cond b (line_turn line) None) (up_in world node) (up_in after node)) (sym same.0)
          (subst (λ (n : Node). TurnsTo (line_turn line) n.up (up_in after node)) (sym was)
          (subst (λ (n : Node). TurnsTo (line_turn line) one.before.up n.up) (sym is) turned))
      | inr other ↦
          let apart : node ≡ node_of event → ⊥ = λ e. other.1 (sym e) in
          let is : node_at after node ≡ node_at world node =
          ap (λ (ns : List Node). get_or ns node (first_node no_config)) one.others
          ∙ get_or-set_other world.nodes (node_of event) node one.after (first_node no_config) apart in
          subst (λ (b : Bool). TurnsTo (cond b (line_turn line) None) (up_in world node) (up_in after node)) (sym other.0)
          (ap (λ (n : Node). n.up) is)
    ]

pub as_many_after : (world : World) (event : Event) (line : Line) (after : World) → Step world event line after → length after.nodes ≡ length world.nodes
as_many_after world event line after step = MemberSteps-length step.one
