-- One arrival, from what the node's two calls ensure
use Rattle.std.specs.Prelude.{◌≡◌, ◌≢◌, ℕ, ◌+◌, ◌<◌, ◌≤◌, ◌⊎◌, ◌==◌, Bool, true, false, not, nat_lt, nat_le, Option, None, Some, List, [], ◌∷◌, length, get_or, option_map, Ok, Err, ◌↔◌, IsErrOf}
use Rattle.std.proofs.Common.{refl, sym, ◌∙◌, ap, subst, arith, inl, inr, get_or-set_other}
use Rattle.std.proofs.lemmas.Bool.Decides.{nat_tests}
use Rattle.key_slots.specs.declared.refusals.Erc.{Erc}
use Rattle.cut_disk.specs.State.{DiskState}
use Rattle.cut_disk.specs.Calls.{IsQuiet, Rose, Runs}
use Rattle.freshness_routes.specs.declared.routes.Direction.TheVariants.{Sends, Receives}
use Rattle.freshness_routes.specs.Changes.{last_freshness}
use Rattle.bus_machine.specs.declared.lines.Line.TheVariants.{Sent, Accepted, Refused}
use Rattle.bus_machine.specs.declared.lines.Refusal.{Refusal}
use Rattle.bus_machine.specs.declared.lines.Refusal.TheVariants as refusal
use Rattle.bus_machine.specs.Node.{Node, no_route, HasRoute, place_of, place_in, counter_at}
use Rattle.bus_machine.specs.Steps.{sends, receives, when, first_of, has_length, has_route, key_refusal, send_refusal, NodeStep}
use Rattle.bus_machine.specs.Bus.{SentLine}
use Rattle.bus_machine.specs.Honest.{IsInTime, IsHeard}
use Rattle.bus_laws.proofs.CallerLemmas.{routed, place_is, Receives≢Sends}
use Rattle.secoc_node.specs.declared.faults.NodeFault.{NodeFault}
use Rattle.secoc_node.specs.declared.faults.NodeFault.TheVariants as fault
use Rattle.secoc_node.specs.Lines.{refusal_of_fault}
use Rattle.secoc_node.specs.State.{NodeState}
use Rattle.secoc_gateway.proofs.Forwarding.{SameKeys, accepted_keys, same_key}
use Rattle.secoc_gateway.specs.declared.arrival.Arrival.TheVariants.{Dropped}
use Rattle.secoc_gateway.specs.Arrivals.{IsReason, IsFaulted, CanForward}

-- ---- quiet disks

pub stays_quiet : (most : ℕ) (a b : DiskState) → Runs [] most a b → IsQuiet a → IsQuiet b
stays_quiet most a b runs quiet =
    let s = runs.quiet refl quiet in
    record { quiet = s.quiet; below = omega (arith, s.faults, quiet.below) }

pub quiet_fails_not : (most : ℕ) (a b : DiskState) → Runs [] most a b → IsQuiet a → Rose a.faults b.faults → ⊥
quiet_fails_not most a b runs quiet rose =
    let s = runs.quiet refl quiet in
    elim rose [
      | inl more ↦ omega (arith, more, s.faults)
      | inr top ↦ omega (arith, top, s.faults, quiet.below)
    ]

-- ---- which error it is, of a result of another type

pub ok_down : {T U E P : Type 0} (x : T) (y : U) (e : E) → (IsErrOf (Ok x) e ↔ P) → (IsErrOf (Ok y) e ↔ P)
ok_down x y e h = (λ is. absurd (cc), λ p. let never = h.1 p in absurd (cc))

pub err_down : {T U E P : Type 0} (f e : E) → (IsErrOf {T = T} (Err f) e ↔ P) → (IsErrOf {T = U} (Err f) e ↔ P)
err_down f e h =
    (λ is. let same : f ≡ e = cc in h.0 (ap Err same), λ p. let is = h.1 p in let same : f ≡ e = cc in ap Err same)

-- ---- the count of faults, by what came of an arrival

-- of an arrival whose payload wasn't sent for this fault: `a` before it, `b` between, `c` after it
pub drop_rose : (v : ℕ) (f : NodeFault) (a b c : ℕ) → b ≡ a → (f ≡ fault.Faulted → Rose b c) → IsFaulted (Ok (Dropped v f)) → Rose a c
drop_rose v fault.Faulted a b c same rose faulted = subst (λ n. Rose n c) same (rose refl)
drop_rose v fault.Down a b c same rose faulted = absurd faulted
drop_rose v fault.NoRoute a b c same rose faulted = absurd faulted
drop_rose v fault.BadLength a b c same rose faulted = absurd faulted
drop_rose v (fault.Key erc) a b c same rose faulted = absurd faulted
drop_rose v fault.Exhausted a b c same rose faulted = absurd faulted

pub drop_same : (v : ℕ) (f : NodeFault) (a b c : ℕ) → b ≡ a → (f ≢ fault.Faulted → c ≡ b) → (¬ IsFaulted (Ok (Dropped v f))) → c ≡ a
drop_same v fault.Faulted a b c same left apart = absurd (apart tt)
drop_same v fault.Down a b c same left apart = left (λ e. cc) ∙ same
drop_same v fault.NoRoute a b c same left apart = left (λ e. cc) ∙ same
drop_same v fault.BadLength a b c same left apart = left (λ e. cc) ∙ same
drop_same v (fault.Key erc) a b c same left apart = left (λ e. cc) ∙ same
drop_same v fault.Exhausted a b c same left apart = left (λ e. cc) ∙ same

-- of one that answers this fault
pub refuse_rose : (f : NodeFault) (a b : ℕ) → (f ≡ fault.Faulted → Rose a b) → IsFaulted (Err f) → Rose a b
refuse_rose fault.Faulted a b rose faulted = rose refl
refuse_rose fault.Down a b rose faulted = absurd faulted
refuse_rose fault.NoRoute a b rose faulted = absurd faulted
refuse_rose fault.BadLength a b rose faulted = absurd faulted
refuse_rose (fault.Key erc) a b rose faulted = absurd faulted
refuse_rose fault.Exhausted a b rose faulted = absurd faulted

pub refuse_same : (f : NodeFault) (a b : ℕ) → (f ≢ fault.Faulted → b ≡ a) → (¬ IsFaulted (Err f)) → b ≡ a
refuse_same fault.Faulted a b left apart = absurd (apart tt)
refuse_same fault.Down a b left apart = left (λ e. cc)
refuse_same fault.NoRoute a b left apart = left (λ e. cc)
refuse_same fault.BadLength a b left apart = left (λ e. cc)
refuse_same (fault.Key erc) a b left apart = left (λ e. cc)
refuse_same fault.Exhausted a b left apart = left (λ e. cc)

-- ---- the node between

-- a node that has just accepted a PDU under one Data ID, and has the route of another
module _ (node between : Node) (id out : ℕ) (pdu payload : List ℕ) (v : ℕ) (source : Option ℕ) (step : NodeStep node (receives id pdu) (Accepted id v payload source) between)
    (out_route : HasRoute node out Sends) where
  keys : SameKeys node between
  keys = accepted_keys node id pdu v payload source between step

  in_place : ℕ
  in_place = place_of node id Receives

  is_up : node.up ≡ true
  is_up = (routed node id pdu step.1.judged.allowed).up

  up_between : between.up ≡ true
  up_between = ap (λ (n : Node). n.up) step.1.after_is ∙ is_up

  same_place : place_of between out Sends ≡ place_of node out Sends
  same_place = ap (λ c. place_in c.routes out Sends) keys.config_is

  pub route_between : HasRoute between out Sends
  route_between = subst (λ c. place_in c.routes out Sends < length c.routes) (sym keys.config_is) out_route

  two_places : place_of node out Sends ≢ place_of node id Receives
  two_places same =
      let a = place_is node.config.routes out Sends out_route in
      let b = place_is node.config.routes id Receives (routed node id pdu step.1.judged.allowed).inside in
      Receives≢Sends _ b.direction_is (subst (λ k. (get_or node.config.routes k no_route).direction ≡ Sends) same a.direction_is)

  pub counter_between : counter_at between (place_of between out Sends) ≡ counter_at node (place_of node out Sends)
  counter_between =
      ap (λ k. counter_at between k) same_place
      ∙ ap (λ (n : Node). counter_at n (place_of node out Sends)) step.1.after_is
      ∙ get_or-set_other node.counters (place_of node id Receives) (place_of node out Sends) v 0 two_places

  usable_between : key_refusal node (place_of node out Sends) ≡ None → key_refusal between (place_of between out Sends) ≡ None
  usable_between usable = ap (key_refusal between) same_place ∙ (same_key node between (place_of node out Sends) keys).1 ∙ usable

  payload_least : 1 ≤ length payload
  payload_least = step.1.judged.verdict_is.2.is_payload.0

  payload_most : length payload ≤ 60
  payload_most = step.1.judged.verdict_is.2.is_payload.1

-- ---- why such a node doesn't send

clear_by : (up inside long : Bool) (rest : List (Option Refusal)) → up ≡ true → inside ≡ true → long ≡ true
    → first_of (when (not up) refusal.Down ∷ when (not inside) refusal.NoRoute ∷ when (not long) refusal.BadLength ∷ rest) ≡ first_of rest
clear_by up inside long rest a b c = rw (a, b, c) refl

test_lt : (a b : ℕ) → a < b → nat_lt a b ≡ true
test_lt a b h = grind (arith, nat_tests)

test_le : (a b : ℕ) → a ≤ b → nat_le a b ≡ true
test_le a b h = grind (arith, nat_tests)

ne_test : (a b : ℕ) → a < b → (a == b) ≡ false
ne_test a b h = grind (arith, nat_tests)

has_payload : (payload : List ℕ) → 1 ≤ length payload → length payload ≤ 60 → has_length 1 60 payload ≡ true
has_payload payload least most = rw (test_le 1 (length payload) least, test_le (length payload) 60 most) refl

-- what is left to refuse a payload
abbrev last_refusals : Node → ℕ → List (Option Refusal)
last_refusals node k = key_refusal node k ∷ when (counter_at node k == last_freshness) refusal.Exhausted ∷ []

cleared : (node : Node) (id : ℕ) (payload : List ℕ) → node.up ≡ true → HasRoute node id Sends → 1 ≤ length payload → length payload ≤ 60
    → send_refusal node id payload ≡ first_of (last_refusals node (place_of node id Sends))
cleared node id payload up route least most =
    clear_by node.up (has_route node id Sends) (has_length 1 60 payload) (last_refusals node (place_of node id Sends)) up
    (test_lt (place_of node id Sends) (length node.config.routes) route) (has_payload payload least most)

reasons : (u : Option Erc) (full : Bool) (f : NodeFault) → first_of (option_map refusal.Key u ∷ when full refusal.Exhausted ∷ []) ≡ Some (refusal_of_fault f) → IsReason f
reasons u full (fault.Key erc) e = tt
reasons u full fault.Exhausted e = tt
reasons u full fault.Faulted e = tt
reasons (Some erc) full fault.Down e = cc
reasons None true fault.Down e = cc
reasons None false fault.Down e = cc
reasons (Some erc) full fault.NoRoute e = cc
reasons None true fault.NoRoute e = cc
reasons None false fault.NoRoute e = cc
reasons (Some erc) full fault.BadLength e = cc
reasons None true fault.BadLength e = cc
reasons None false fault.BadLength e = cc

-- a refusal that isn't the disk's failure
refused_for : (node : Node) (id : ℕ) (payload : List ℕ) (f : NodeFault) (after : Node) → f ≢ fault.Faulted → NodeStep node (sends id payload) (Refused (refusal_of_fault f)) after
    → send_refusal node id payload ≡ Some (refusal_of_fault f)
refused_for node id payload fault.Down after other step = step.0
refused_for node id payload fault.NoRoute after other step = step.0
refused_for node id payload fault.BadLength after other step = step.0
refused_for node id payload (fault.Key erc) after other step = step.0
refused_for node id payload fault.Exhausted after other step = step.0
refused_for node id payload fault.Faulted after other step = absurd (other refl)

is_faulted : (f : NodeFault) → (f ≡ fault.Faulted) ⊎ (f ≢ fault.Faulted)
is_faulted fault.Down = inr (λ e. cc)
is_faulted fault.NoRoute = inr (λ e. cc)
is_faulted fault.BadLength = inr (λ e. cc)
is_faulted (fault.Key erc) = inr (λ e. cc)
is_faulted fault.Exhausted = inr (λ e. cc)
is_faulted fault.Faulted = inl refl

module _ (node between : Node) (id out : ℕ) (pdu payload : List ℕ) (v : ℕ) (source : Option ℕ) (step : NodeStep node (receives id pdu) (Accepted id v payload source) between)
    (out_route : HasRoute node out Sends) where
  cleared_between : send_refusal between out payload ≡ first_of (last_refusals between (place_of between out Sends))
  cleared_between =
      cleared between out payload (up_between node between id out pdu payload v source step out_route) (route_between node between id out pdu payload v source step out_route)
      (payload_least node between id out pdu payload v source step out_route) (payload_most node between id out pdu payload v source step out_route)

  pub reason_of : (f : NodeFault) (after : Node) → NodeStep between (sends out payload) (Refused (refusal_of_fault f)) after → IsReason f
  reason_of f after told = elim (is_faulted f) [
    | inl is ↦ subst IsReason (sym is) tt
    | inr other ↦ reasons _ _ f (sym cleared_between ∙ refused_for between out payload f after other told)
  ]

  -- nothing but the disk can refuse
  pub only_the_disk : (f : NodeFault) (after : Node) → key_refusal node (place_of node out Sends) ≡ None → counter_at node (place_of node out Sends) < last_freshness
      → f ≢ fault.Faulted → NodeStep between (sends out payload) (Refused (refusal_of_fault f)) after → ⊥
  only_the_disk f after usable below other told =
      let k : ℕ = place_of between out Sends in
      let same = counter_between node between id out pdu payload v source step out_route in
      let free : (counter_at between k == last_freshness) ≡ false = ne_test (counter_at between k) last_freshness (omega (arith, same, below)) in
      let none : first_of (last_refusals between k) ≡ None = rw (usable_between node between id out pdu payload v source step out_route usable, free) refl in
      none_is_some (sym none ∙ sym cleared_between ∙ refused_for between out payload f after other told)
    where
      none_is_some : {r : Refusal} → None ≡ Some r → ⊥
      none_is_some e = cc

-- ---- what can be forwarded

-- the arrival as a line that was sent
abbrev pub brought_line : (id : ℕ) → (pdu payload : List ℕ) → ℕ → SentLine
brought_line id pdu payload v = record { number = 0; id = id; payload = payload; freshness = v; pdu = pdu }

pub in_time : (s : NodeState) (id out : ℕ) (pdu payload : List ℕ) (v : ℕ) → HasRoute s.node id Receives → CanForward s id out pdu payload v
    → IsInTime s.node (brought_line id pdu payload v) (place_of s.node id Receives)
in_time s id out pdu payload v route can = record {
  is_up = can.is_up;
  has_route = route;
  usable = can.usable;
  secured = can.accepted.2;
  above = can.accepted.0.above;
  near = can.accepted.0.near;
}

-- a line that isn't accepted, over a disk that doesn't fail
pub heard_not : (id : ℕ) (pdu payload : List ℕ) (v : ℕ) (f : NodeFault) → f ≢ fault.Faulted → IsHeard (brought_line id pdu payload v) (Refused (refusal_of_fault f)) → ⊥
heard_not id pdu payload v fault.Down other heard = heard
heard_not id pdu payload v fault.NoRoute other heard = heard
heard_not id pdu payload v fault.BadLength other heard = heard
heard_not id pdu payload v (fault.Key erc) other heard = heard
heard_not id pdu payload v fault.Exhausted other heard = heard
heard_not id pdu payload v fault.Faulted other heard = absurd (other refl)

-- ---- the clauses of one arrival

-- what was forwarded has the freshness that the arrival had, and the one above the outgoing counter
pub forwards_right : (node between after : Node) (id out : ℕ) (pdu given payload : List ℕ) (w x v : ℕ) (frame : List ℕ) (source : Option ℕ) → HasRoute node out Sends
    → NodeStep node (receives id pdu) (Accepted id w given source) between → NodeStep between (sends out given) (Sent out x frame) after
    → IsHeard (brought_line id pdu payload v) (Accepted id w given source) → (w ≡ v) × (x ≡ counter_at node (place_of node out Sends) + 1)
forwards_right node between after id out pdu given payload w x v frame source route first second heard =
    (heard.1, second.1.freshness_is ∙ ap (λ n. n + 1) (counter_between node between id out pdu given w source first route))

-- what can be forwarded isn't dropped
pub drops_not : (s t u : NodeState) (id out : ℕ) (pdu given payload : List ℕ) (w v : ℕ) (f : NodeFault) (source : Option ℕ) → HasRoute s.node out Sends
    → NodeStep s.node (receives id pdu) (Accepted id w given source) t.node → NodeStep t.node (sends out given) (Refused (refusal_of_fault f)) u.node
    → Runs [] 6 s.store.disk t.store.disk → Runs [] 6 t.store.disk u.store.disk → (f ≡ fault.Faulted → Rose t.store.disk.faults u.store.disk.faults)
    → CanForward s id out pdu payload v → ⊥
drops_not s t u id out pdu given payload w v f source route first second before after rose can = elim (is_faulted f) [
  | inl is ↦ quiet_fails_not 6 t.store.disk u.store.disk after (stays_quiet 6 s.store.disk t.store.disk before can.quiet) (rose is)
  | inr other ↦ only_the_disk s.node t.node id out pdu given w source first route f u.node can.out_usable can.below other second
]

-- nor refused
pub refuses_not : (s t : NodeState) (id out : ℕ) (pdu payload : List ℕ) (v : ℕ) (f : NodeFault) → Runs [] 6 s.store.disk t.store.disk
    → (f ≡ fault.Faulted → Rose s.store.disk.faults t.store.disk.faults) → CanForward s id out pdu payload v
    → IsHeard (brought_line id pdu payload v) (Refused (refusal_of_fault f)) → ⊥
refuses_not s t id out pdu payload v f runs rose can heard = elim (is_faulted f) [
  | inl is ↦ quiet_fails_not 6 s.store.disk t.store.disk runs can.quiet (rose is)
  | inr other ↦ heard_not id pdu payload v f other heard
]
