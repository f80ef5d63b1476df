-- A sound node stays sound
use Rattle.std.specs.Prelude.{◌≡◌, ◌≢◌, ℕ, suc, ◌+◌, ◌-◌, ◌^◌, ◌<◌, ◌≤◌, ◌⊎◌, ◌==◌, ◌&&◌, if◌then◌else◌, Bool, true, false, nat_lt, Option, None, Some, IfSome, List, [], ◌∷◌, length, get_or, set, option_map}
use Rattle.std.proofs.Common.{refl, sym, ◌∙◌, ap, subst, arith, inl, inr, true≢false, length-set, get_or-set_same, get_or-set_other}
use Rattle.std.proofs.lemmas.Bool.Decides.{nat_tests, eqb_tells}
use Rattle.key_slots.specs.declared.memory.Slot.{Slot}
use Rattle.key_slots.specs.Slots.{IsSlot, IsSlots}
use Rattle.memory_update.specs.declared.messages.Request.{Request}
use Rattle.memory_update.specs.declared.messages.Update.{Update}
use Rattle.memory_update.specs.Loading.{slot_of}
use Rattle.freshness_routes.specs.declared.routes.Direction.{Direction}
use Rattle.freshness_routes.specs.declared.routes.Direction.TheVariants.{Sends, Receives}
use Rattle.freshness_routes.specs.declared.routes.Route.{Route}
use Rattle.freshness_routes.specs.Changes.{last_freshness, bound_ahead}
use Rattle.freshness_routes.specs.Config.{Config, IsRoute, IsConfig}
use Rattle.bus_machine.specs.declared.lines.Line.{Line}
use Rattle.bus_machine.specs.Node.{Node, Kept, same_direction, Change, slot_to, bound_to, changed, place_of, place_in, route_at, no_route, bound_at, counter_at, powered, with_counter, with_slot, booted, failed, refused_up}
use Rattle.bus_machine.specs.Sound.{MovesForward, InStep, Sound}
use Rattle.bus_machine.specs.Steps.{Act, sends, receives, loads, keys, boots, cuts, arms, hears_nothing, send_change, SendsFrame, AcceptsFrame, TakesUpdate, Makes, NodeStep}
use Rattle.bus_laws.proofs.Effects.{Effect, effect_of, stays, sent, accepted, took, decided, faulted, powers, refused, Routed, routed, send_routed, min_is, lt_of_test, not_lt_of_test}
use Rattle.bus_laws.proofs.Taken.{taken_update}

pub route_is : (node : Node) (k : ℕ) → Sound node → k < length node.config.routes → IsRoute (route_at node k)
route_is node k s inside = s.config.are_routes k no_route inside

pub nothing_pending : (node : Node) → Sound node → node.up ≡ true → node.pending ≡ None
nothing_pending node s up = s.settled up

-- if nothing is pending, nothing needs to move forward
forward_of_none : (node : Node) (c : Option Change) → c ≡ None → IfSome c (MovesForward node)
forward_of_none node None e = tt
forward_of_none node (Some c) e = cc

-- ---- slots

pub IsSlots-set : (slots : List Slot) (target : ℕ) (slot : Slot) → IsSlots slots → target < 14 → IsSlot slot → IsSlots (set slots target slot)
IsSlots-set slots target slot are fits is = record {
  size = length-set slots target slot ∙ are.size;
  slots_are = λ t d inside. elim (eqb_tells t target) [
    | inl same ↦
        subst IsSlot (sym (subst (λ i. get_or (set slots target slot) i d ≡ slot) (sym same.1) (get_or-set_same slots target slot d (subst (λ n. target < n) (sym are.size) fits)))) is
    | inr other ↦
        subst IsSlot (sym (get_or-set_other slots target t slot d other.1)) (are.slots_are t d (subst (λ n. t < n) (length-set slots target slot) inside))
  ];
}

-- ---- counters and bounds

-- a change of a bound that may be due
abbrev pub due : Bool → ℕ → ℕ → Option Change
due b k x = option_map (bound_to k) (if b then Some x else None)

-- route k of an up node counts to v within its bound
counted_within : (node : Node) (k v : ℕ) → Sound node → node.up ≡ true → counter_at node k ≤ v → v ≤ bound_at node k → Sound (with_counter None k v node)
counted_within node k v s up least most = record {
  config = s.config;
  slots = s.slots;
  bounds = s.bounds;
  counters = length-set node.counters k v ∙ s.counters;
  in_step = λ j inside.
      let old : InStep node j = s.in_step j inside in
      elim (eqb_tells j k) [
        | inl same ↦
            let c : get_or (set node.counters k v) j 0 ≡ v = subst (λ i. get_or (set node.counters k v) i 0 ≡ v) (sym same.1)
            (get_or-set_same node.counters k v 0 (subst (λ i. i < length node.counters) same.1 (subst (λ n. j < n) (sym s.counters) inside))) in
            let e : counter_at node j ≡ counter_at node k = ap (counter_at node) same.1 in
            let b : bound_at node j ≡ bound_at node k = ap (bound_at node) same.1 in
            record { below = omega (arith, c, b, most); near = omega (arith, c, old.near, e, least); fits = old.fits }
        | inr other ↦
            let c : get_or (set node.counters k v) j 0 ≡ get_or node.counters j 0 = get_or-set_other node.counters k j v 0 other.1 in
            record { below = omega (arith, c, old.below); near = omega (arith, c, old.near); fits = old.fits }
      ];
  settled = s.settled;
  forward = forward_of_none (with_counter None k v node) node.pending (s.settled up);
}

-- route k of an up node counts to v, with a new bound
counted_past : (node : Node) (k v x : ℕ) → Sound node → node.up ≡ true → k < length node.config.routes → v ≤ x → x ≤ v + (route_at node k).reserve - 1 → x < 2 ^ 64 → Sound (with_counter (Some (bound_to k x)) k v node)
counted_past node k v x s up inside least most fits = record {
  config = s.config;
  slots = s.slots;
  bounds = length-set node.kept.bounds k x ∙ s.bounds;
  counters = length-set node.counters k v ∙ s.counters;
  in_step = λ j within.
      let old : InStep node j = s.in_step j within in
      elim (eqb_tells j k) [
        | inl same ↦
            let c : get_or (set node.counters k v) j 0 ≡ v = subst (λ i. get_or (set node.counters k v) i 0 ≡ v) (sym same.1)
            (get_or-set_same node.counters k v 0 (subst (λ n. k < n) (sym s.counters) inside)) in
            let b : get_or (set node.kept.bounds k x) j 0 ≡ x = subst (λ i. get_or (set node.kept.bounds k x) i 0 ≡ x) (sym same.1)
            (get_or-set_same node.kept.bounds k x 0 (subst (λ n. k < n) (sym s.bounds) inside)) in
            let e : (route_at node j).reserve ≡ (route_at node k).reserve = ap (λ i. (route_at node i).reserve) same.1 in
            record { below = omega (arith, c, b, least); near = omega (arith, c, b, e, most); fits = omega (arith, b, fits) }
        | inr other ↦
            let c : get_or (set node.counters k v) j 0 ≡ get_or node.counters j 0 = get_or-set_other node.counters k j v 0 other.1 in
            let b : get_or (set node.kept.bounds k x) j 0 ≡ get_or node.kept.bounds j 0 = get_or-set_other node.kept.bounds k j x 0 other.1 in
            record { below = omega (arith, c, b, old.below); near = omega (arith, c, b, old.near); fits = omega (arith, b, old.fits) }
      ];
  settled = s.settled;
  forward = forward_of_none (with_counter (Some (bound_to k x)) k v node) node.pending (s.settled up);
}

-- what is known of a new bound
pub record Reserves (node : Node) (k v x : ℕ) : Type 0 where
  pub passes : bound_at node k < v
  pub covers : v ≤ x
  pub near : x ≤ v + (route_at node k).reserve - 1
  pub fits : x < 2 ^ 64

-- a sender that isn't exhausted has a next freshness
next_fits : (node : Node) (k : ℕ) → Sound node → k < length node.config.routes → counter_at node k ≢ last_freshness → counter_at node k + 1 < 2 ^ 64
next_fits node k s inside more = let old : InStep node k = s.in_step k inside in omega (arith, old.below, old.fits, more)

move_reserves : (node : Node) (k v : ℕ) → Sound node → k < length node.config.routes → v < 2 ^ 64 → bound_at node k < v
    → Reserves node k v (bound_ahead (route_at node k).reserve v)
move_reserves node k v s inside small passes =
    let r : IsRoute (route_at node k) = route_is node k s inside in
    let m = min_is (v + (route_at node k).reserve - 1) last_freshness in
    elim m.2 [
      | inl e ↦ record { passes = passes; covers = omega (arith, e, r.reserve_least); near = m.0; fits = omega (arith, m.1) }
      | inr e ↦ record { passes = passes; covers = omega (arith, e, small); near = m.0; fits = omega (arith, m.1) }
    ]

counted_sound : (node : Node) (k v x : ℕ) (b : Bool) → Sound node → Routed node k → counter_at node k ≤ v
    → (b ≡ false → v ≤ bound_at node k) → (b ≡ true → Reserves node k v x) → Sound (with_counter (due b k x) k v node)
counted_sound node k v x true s r least within past =
    let p : Reserves node k v x = past refl in
    counted_past node k v x s r.up r.inside p.covers p.near p.fits
counted_sound node k v x false s r least within past = counted_within node k v s r.up least (within refl)

pub Sound-sent : (node : Node) (id : ℕ) (payload : List ℕ) (v : ℕ) (pdu : List ℕ) (after : Node) → Sound node → SendsFrame node id payload v pdu after → Sound after
Sound-sent node id payload v pdu after s step =
    let k : ℕ = place_of node id Sends in
    let r = send_routed node id payload step.allowed in
    subst Sound (sym step.after_is) (subst (λ v. Sound (with_counter (send_change node k) k v node)) (sym step.freshness_is)
    (counted_sound node k (counter_at node k + 1) (bound_ahead (route_at node k).reserve (counter_at node k + 1)) (nat_lt (bound_at node k) (counter_at node k + 1)) s r.0 (omega arith)
    (λ e. not_lt_of_test (bound_at node k) (counter_at node k + 1) e)
    (λ e. move_reserves node k (counter_at node k + 1) s r.0.inside (next_fits node k s r.0.inside r.1) (lt_of_test (bound_at node k) (counter_at node k + 1) e))))

pub Sound-accepted : (node : Node) (id : ℕ) (pdu payload : List ℕ) (v : ℕ) (after : Node) → Sound node → AcceptsFrame node id pdu payload v after → Sound after
Sound-accepted node id pdu payload v after s step =
    let k : ℕ = place_of node id Receives in
    let r = routed node id pdu step.judged.allowed in
    let a = step.judged.verdict_is.0 in
    subst Sound (sym step.after_is)
    (counted_sound node k v (bound_ahead (route_at node k).reserve v) (nat_lt (bound_at node k) v) s r (omega (arith, a.above))
    (λ e. not_lt_of_test (bound_at node k) v e)
    (λ e. move_reserves node k v s r.inside a.fits (lt_of_test (bound_at node k) v e)))

-- ---- updates

pub takes_forward : (node : Node) (request : Request) (u : Update) → Sound node → TakesUpdate node request u → MovesForward node (slot_to u.id (slot_of u))
takes_forward node request u s takes =
    let t = taken_update node.kept.slots _ _ request u s.slots takes.allowed in
    (t.is_update.id_fits, t.greater, (t.is_update.is_key, t.is_update.counter_fits))

Sound-took : (node : Node) (u : Update) (request : Request) → Sound node → TakesUpdate node request u → Sound (with_slot u.id (slot_of u) node)
Sound-took node u request s takes =
    let f = takes_forward node request u s takes in
    record {
      config = s.config;
      slots = IsSlots-set node.kept.slots u.id (slot_of u) s.slots f.0 f.2;
      bounds = s.bounds;
      counters = s.counters;
      in_step = λ k inside. let old = s.in_step k inside in record { below = old.below; near = old.near; fits = old.fits };
      settled = s.settled;
      forward = forward_of_none (with_slot u.id (slot_of u) node) node.pending (s.settled takes.is_up);
    }

-- ---- nodes that keep what they kept

abbrev IsForward : Node → Option Change → Type 0
IsForward node change = IfSome change (MovesForward node)

Forward-booted : (node : Node) (good : Bool) (c : Option Change) → IsForward node c → IsForward (booted good node) c
Forward-booted node good None f = tt
Forward-booted node good (Some (slot_to target slot)) f = f
Forward-booted node good (Some (bound_to k bound)) f = f

Sound-booted : (node : Node) (good : Bool) → Sound node → Sound (booted good node)
Sound-booted node good s = record {
  config = s.config;
  slots = s.slots;
  bounds = s.bounds;
  counters = s.counters;
  in_step = λ k inside. let old = s.in_step k inside in record { below = old.below; near = old.near; fits = old.fits };
  settled = s.settled;
  forward = Forward-booted node good node.pending s.forward;
}

Forward-refused : (node : Node) (c : Option Change) → IsForward node c → IsForward (refused_up node) c
Forward-refused node None f = tt
Forward-refused node (Some (slot_to target slot)) f = f
Forward-refused node (Some (bound_to k bound)) f = f

Sound-refused : (node : Node) → Sound node → Sound (refused_up node)
Sound-refused node s = record {
  config = s.config;
  slots = s.slots;
  bounds = s.bounds;
  counters = s.counters;
  in_step = λ k inside. let old = s.in_step k inside in record { below = old.below; near = old.near; fits = old.fits };
  settled = λ e. absurd (true≢false (sym e));
  forward = Forward-refused node node.pending s.forward;
}

Forward-failed : (node : Node) (change : Change) → MovesForward node change → MovesForward (failed change node) change
Forward-failed node (slot_to target slot) f = f
Forward-failed node (bound_to k bound) f = f

Sound-failed : (node : Node) (change : Change) → Sound node → MovesForward node change → Sound (failed change node)
Sound-failed node change s f = record {
  config = s.config;
  slots = s.slots;
  bounds = s.bounds;
  counters = s.counters;
  in_step = λ k inside. let old = s.in_step k inside in record { below = old.below; near = old.near; fits = old.fits };
  settled = λ e. absurd (true≢false (sym e));
  forward = Forward-failed node change f;
}

-- ---- the route at a place has that Data ID and direction

pub record IsFor (route : Route) (id : ℕ) (direction : Direction) : Type 0 where
  pub id_is : route.id ≡ id
  pub direction_is : route.direction ≡ direction

pub both_true : (p q : Bool) → (p && q) ≡ true → (p ≡ true) × (q ≡ true)
both_true true q e = (refl, e)
both_true false q e = cc

direction_is_same : (a b : Direction) → same_direction a b ≡ true → a ≡ b
direction_is_same Sends Sends e = refl
direction_is_same Receives Receives e = refl
direction_is_same Sends Receives e = cc
direction_is_same Receives Sends e = cc

pub eq_of_test : (a b : ℕ) → (a == b) ≡ true → a ≡ b
eq_of_test a b e = grind (arith, nat_tests)

pub place_is : (routes : List Route) (id : ℕ) (direction : Direction) → place_in routes id direction < length routes → IsFor (get_or routes (place_in routes id direction) no_route) id direction
place_is [] id direction h = absurd (omega (arith, h))
place_is (r ∷ rs) id direction h = by_test ((r.id == id) && same_direction r.direction direction) refl (place_is rs id direction) h
  where
    by_test : (b : Bool) → ((r.id == id) && same_direction r.direction direction) ≡ b
        → (place_in rs id direction < length rs → IsFor (get_or rs (place_in rs id direction) no_route) id direction)
        → (if b then 0 else suc (place_in rs id direction)) < length (r ∷ rs)
        → IsFor (get_or (r ∷ rs) (if b then 0 else suc (place_in rs id direction)) no_route) id direction
    by_test true e rest h =
        let t = both_true (r.id == id) (same_direction r.direction direction) e in
        record { id_is = eq_of_test r.id id t.0; direction_is = direction_is_same r.direction direction t.1 }
    by_test false e rest h = rest (omega (arith, h))

abbrev is_sending : Direction → Bool
is_sending Sends = true
is_sending Receives = false

pub Receives≢Sends : (d : Direction) → d ≡ Receives → d ≡ Sends → ⊥
Receives≢Sends d r s = let e : false ≡ true = sym (ap is_sending r) ∙ ap is_sending s in true≢false (sym e)

-- ---- an act that fails

pub same_some : {A : Type 0} (x y : A) → Some x ≡ Some y → x ≡ y
same_some {A} x y e = ap (from x) e
  where
    from : {A : Type 0} → A → Option A → A
    from d None = d
    from d (Some y) = y

bound_forward : (node : Node) (k v x : ℕ) (b : Bool) (change : Change) → k < length node.config.routes → (b ≡ true → Reserves node k v x)
    → (Reserves node k v x → (route_at node k).direction ≡ Sends → x ≤ counter_at node k + (route_at node k).reserve)
    → due b k x ≡ Some change → MovesForward node change
bound_forward node k v x false change inside past most e = cc
bound_forward node k v x true change inside past most e =
    let p : Reserves node k v x = past refl in
    subst (MovesForward node) (same_some (bound_to k x) change e) (inside, omega (arith, p.passes, p.covers), p.fits, most p)

-- what an act is to make moves forward what is kept
pub makes_forward : (node : Node) (act : Act) (change : Change) → Sound node → Makes node act change → MovesForward node change
makes_forward node (sends id payload) change s makes =
    let k : ℕ = place_of node id Sends in
    let r = send_routed node id payload makes.0 in
    bound_forward node k (counter_at node k + 1) (bound_ahead (route_at node k).reserve (counter_at node k + 1)) (nat_lt (bound_at node k) (counter_at node k + 1)) change r.0.inside
    (λ e. move_reserves node k (counter_at node k + 1) s r.0.inside (next_fits node k s r.0.inside r.1) (lt_of_test (bound_at node k) (counter_at node k + 1) e))
    (λ p _. let old : InStep node k = s.in_step k r.0.inside in omega (arith, p.near, p.passes, old.below, (route_is node k s r.0.inside).reserve_least))
    makes.1
makes_forward node (receives id pdu) change s makes =
    let k : ℕ = place_of node id Receives in
    let v : ℕ = makes.1 in
    let r = routed node id pdu makes.2.allowed in
    bound_forward node k v (bound_ahead (route_at node k).reserve v) (nat_lt (bound_at node k) v) change r.inside
    (λ e. move_reserves node k v s r.inside makes.2.verdict_is.0.fits (lt_of_test (bound_at node k) v e))
    (λ p e. absurd (Receives≢Sends (route_at node k).direction (place_is node.config.routes id Receives r.inside).direction_is e))
    makes.3
makes_forward node (loads request) change s makes =
    subst (MovesForward node) (sym makes.2) (takes_forward node request makes.0 s makes.1)
makes_forward node (keys update authkey) change s makes =
    subst (MovesForward node) (sym makes.2.2) (takes_forward node makes.0 makes.2.0 s makes.2.1)
makes_forward node (boots image) change s makes = absurd makes
makes_forward node cuts change s makes = absurd makes
makes_forward node arms change s makes = absurd makes
makes_forward node hears_nothing change s makes = absurd makes

-- ---- a power-up

pub Sound-powered : (config : Config) (kept : Kept) → IsConfig config → IsSlots kept.slots → length kept.bounds ≡ length config.routes
    → ((k : ℕ) → k < length config.routes → get_or kept.bounds k 0 < 2 ^ 64) → Sound (powered config kept)
Sound-powered config kept good slots bounds fits = record {
  config = good;
  slots = slots;
  bounds = bounds;
  counters = bounds;
  in_step = λ k inside. let r : IsRoute (get_or config.routes k no_route) = good.are_routes k no_route inside in record { below = omega arith; near = omega (arith, r.reserve_least); fits = fits k inside };
  settled = λ e. refl;
  forward = tt;
}

pub get_set : (xs : List ℕ) (k j x : ℕ) → k < length xs → ((j ≡ k) × (get_or (set xs k x) j 0 ≡ x)) ⊎ ((j ≢ k) × (get_or (set xs k x) j 0 ≡ get_or xs j 0))
get_set xs k j x inside = elim (eqb_tells j k) [
  | inl same ↦ inl (same.1, subst (λ i. get_or (set xs k x) i 0 ≡ x) (sym same.1) (get_or-set_same xs k x 0 inside))
  | inr other ↦ inr (other.1, get_or-set_other xs k j x 0 other.1)
]

Sound-powered_changed : (node : Node) (change : Change) → Sound node → MovesForward node change → Sound (powered node.config (changed change node.kept))
Sound-powered_changed node (slot_to target slot) s f =
    Sound-powered node.config (changed (slot_to target slot) node.kept) s.config (IsSlots-set node.kept.slots target slot s.slots f.0 f.2) s.bounds (λ k inside. (s.in_step k inside).fits)
Sound-powered_changed node (bound_to k x) s f =
    Sound-powered node.config (changed (bound_to k x) node.kept) s.config s.slots (length-set node.kept.bounds k x ∙ s.bounds)
    (λ j inside. elim (get_set node.kept.bounds k j x (subst (λ n. k < n) (sym s.bounds) f.0)) [
      | inl same ↦ omega (arith, same.1, f.2)
      | inr other ↦ omega (arith, other.1, (s.in_step j inside).fits)
    ])

-- the pending change moves forward what is kept
pub pending_forward : (node : Node) (change : Change) → Sound node → node.pending ≡ Some change → MovesForward node change
pending_forward node change s e = subst (λ c. IfSome c (MovesForward node)) e s.forward

pub Sound-effect : (node after : Node) → Sound node → Effect node after → Sound after
Sound-effect node after s (stays e) = subst Sound (sym e) s
Sound-effect node after s (sent id payload v pdu step) = Sound-sent node id payload v pdu after s step
Sound-effect node after s (accepted id pdu payload v step) = Sound-accepted node id pdu payload v after s step
Sound-effect node after s (took request u takes e) = subst Sound (sym e) (Sound-took node u request s takes)
Sound-effect node after s (decided good e) = subst Sound (sym e) (Sound-booted node good s)
Sound-effect node after s (faulted act f) = subst Sound (sym f.2) (Sound-failed node f.0 s (makes_forward node act f.0 s f.1))
Sound-effect node after s (powers (inl e)) =
    subst Sound (sym e) (Sound-powered node.config node.kept s.config s.slots s.bounds (λ k inside. (s.in_step k inside).fits))
Sound-effect node after s (powers (inr c)) =
    subst Sound (sym c.2) (Sound-powered_changed node c.0 s (pending_forward node c.0 s c.1))
Sound-effect node after s (refused e) = subst Sound (sym e) (Sound-refused node s)

-- a step keeps a node sound
pub Sound-step : (node : Node) (act : Act) (line : Line) (after : Node) → Sound node → NodeStep node act line after → Sound after
Sound-step node act line after s step = Sound-effect node after s (effect_of node act line after step)
