-- A step changes no configuration, and lets no counter of a route fall and no slot go back
use Rattle.std.specs.Prelude.{◌≡◌, ℕ, ◌<◌, ◌≤◌, ◌⊎◌, Bool, true, false, List, length, get_or, set}
use Rattle.std.proofs.Common.{refl, sym, ◌∙◌, ap, subst, arith, inl, inr, get_or-set_same, get_or-set_other}
use Rattle.std.proofs.lemmas.Bool.Decides.{eqb_tells}
use Rattle.key_slots.specs.declared.memory.Slot.{Slot}
use Rattle.key_slots.specs.declared.memory.Slot.TheVariants.{Empty}
use Rattle.key_slots.specs.Slots.{slot_at, counter_of}
use Rattle.freshness_routes.specs.declared.routes.Direction.TheVariants.{Sends, Receives}
use Rattle.bus_machine.specs.declared.lines.Line.{Line}
use Rattle.bus_machine.specs.Node.{Node, Kept, Change, slot_to, bound_to, changed, changed_by, place_of, bound_at, counter_at, with_counter}
use Rattle.bus_machine.specs.Sound.{MovesForward, Sound}
use Rattle.bus_machine.specs.Steps.{Act, NodeStep}
use Rattle.bus_laws.proofs.Effects.{Effect, effect_of, stays, sent, accepted, took, decided, faulted, powers, refused, routed, send_routed}
use Rattle.bus_laws.proofs.SoundSteps.{due, get_set, takes_forward, pending_forward}

-- the slot holds what it held, or a key with a greater counter
abbrev pub Renews : Slot → Slot → Type 0
Renews old new = (new ≡ old) ⊎ (counter_of old < counter_of new)

pub record Grows (node after : Node) : Type 0 where
  pub config_is : after.config ≡ node.config
  pub counters : (k : ℕ) → k < length node.config.routes → counter_at node k ≤ counter_at after k
  pub slots : (t : ℕ) → Renews (slot_at node.kept.slots t) (slot_at after.kept.slots t)

pub Grows-same : (node : Node) → Grows node node
Grows-same node = record { config_is = refl; counters = λ k inside. omega arith; slots = λ t. inl refl }

pub slots_by_bound : (kept : Kept) (b : Bool) (k x : ℕ) → (changed_by (due b k x) kept).slots ≡ kept.slots
slots_by_bound kept true k x = refl
slots_by_bound kept false k x = refl

counted_grows : (node : Node) (b : Bool) (k x v : ℕ) → Sound node → k < length node.config.routes → counter_at node k ≤ v → Grows node (with_counter (due b k x) k v node)
counted_grows node b k x v s inside more = record {
  config_is = refl;
  counters = λ j _. elim (get_set node.counters k j v (subst (λ n. k < n) (sym s.counters) inside)) [
    | inl same ↦ let e : counter_at node j ≡ counter_at node k = ap (counter_at node) same.0 in omega (arith, same.1, e, more)
    | inr other ↦ omega (arith, other.1)
  ];
  slots = λ t. inl (ap (λ slots. slot_at slots t) (slots_by_bound node.kept b k x));
}

-- a slot that is set to one with a greater counter
slot_set : (slots : List Slot) (target t : ℕ) (slot : Slot) → target < length slots → counter_of (slot_at slots target) < counter_of slot → Renews (slot_at slots t) (slot_at (set slots target slot) t)
slot_set slots target t slot inside more = elim (eqb_tells t target) [
  | inl same ↦
      let at : slot_at (set slots target slot) t ≡ slot = subst (λ i. slot_at (set slots target slot) i ≡ slot) (sym same.1) (get_or-set_same slots target slot Empty inside) in
      inr (subst (λ y. counter_of (slot_at slots t) < counter_of y) (sym at) (subst (λ i. counter_of (slot_at slots i) < counter_of slot) (sym same.1) more))
  | inr other ↦ inl (get_or-set_other slots target t slot Empty other.1)
]

bound_not_below : (node : Node) (k j x : ℕ) → Sound node → k < length node.config.routes → bound_at node k < x → bound_at node j ≤ get_or (set node.kept.bounds k x) j 0
bound_not_below node k j x s inside more = elim (get_set node.kept.bounds k j x (subst (λ n. k < n) (sym s.bounds) inside)) [
  | inl same ↦ let e : bound_at node j ≡ bound_at node k = ap (bound_at node) same.0 in omega (arith, same.1, e, more)
  | inr other ↦ omega (arith, other.1)
]

powered_changed_grows : (node after : Node) (change : Change) → Sound node → MovesForward node change
    → after.config ≡ node.config → after.kept ≡ changed change node.kept → after.counters ≡ after.kept.bounds → Grows node after
powered_changed_grows node after (slot_to target slot) s f config kept counters = record {
  config_is = config;
  counters = λ k inside.
      let at : counter_at after k ≡ bound_at node k = ap (λ xs. get_or xs k 0) (counters ∙ ap (λ x. x.bounds) kept) in
      omega (arith, at, (s.in_step k inside).below);
  slots = λ t. subst (λ slots. Renews (slot_at node.kept.slots t) (slot_at slots t)) (sym (ap (λ x. x.slots) kept))
      (slot_set node.kept.slots target t slot (subst (λ n. target < n) (sym s.slots.size) f.0) f.1);
}
powered_changed_grows node after (bound_to k x) s f config kept counters = record {
  config_is = config;
  counters = λ j inside.
      let at : counter_at after j ≡ get_or (set node.kept.bounds k x) j 0 = ap (λ xs. get_or xs j 0) (counters ∙ ap (λ x. x.bounds) kept) in
      omega (arith, at, bound_not_below node k j x s f.0 f.1, (s.in_step j inside).below);
  slots = λ t. inl (ap (λ x. slot_at x.slots t) kept);
}

pub Grows-effect : (node after : Node) → Sound node → Effect node after → Grows node after
Grows-effect node after s (stays e) = subst (Grows node) (sym e) (Grows-same node)
Grows-effect node after s (sent id payload v pdu step) =
    let k : ℕ = place_of node id Sends in
    let r = send_routed node id payload step.allowed in
    subst (Grows node) (sym step.after_is) (counted_grows node _ k _ v s r.0.inside (omega (arith, step.freshness_is)))
Grows-effect node after s (accepted id pdu payload v step) =
    let k : ℕ = place_of node id Receives in
    let r = routed node id pdu step.judged.allowed in
    subst (Grows node) (sym step.after_is) (counted_grows node _ k _ v s r.inside (omega (arith, step.judged.verdict_is.0.above)))
Grows-effect node after s (took request u takes e) =
    let f = takes_forward node request u s takes in
    subst (Grows node) (sym e) (record {
      config_is = refl;
      counters = λ k inside. omega arith;
      slots = λ t. slot_set node.kept.slots u.id t _ (subst (λ n. u.id < n) (sym s.slots.size) f.0) f.1;
    })
Grows-effect node after s (decided good e) = subst (Grows node) (sym e) (record { config_is = refl; counters = λ k inside. omega arith; slots = λ t. inl refl })
Grows-effect node after s (faulted act f) = subst (Grows node) (sym f.2) (record { config_is = refl; counters = λ k inside. omega arith; slots = λ t. inl refl })
Grows-effect node after s (powers (inl e)) = subst (Grows node) (sym e) (record { config_is = refl; counters = λ k inside. (s.in_step k inside).below; slots = λ t. inl refl })
Grows-effect node after s (powers (inr c)) =
    subst (Grows node) (sym c.2) (powered_changed_grows node _ c.0 s (pending_forward node c.0 s c.1) refl refl refl)
Grows-effect node after s (refused e) = subst (Grows node) (sym e) (record { config_is = refl; counters = λ k inside. omega arith; slots = λ t. inl refl })

pub Grows-step : (node : Node) (act : Act) (line : Line) (after : Node) → Sound node → NodeStep node act line after → Grows node after
Grows-step node act line after s step = Grows-effect node after s (effect_of node act line after step)

Renews-on : (a b c : Slot) → Renews a b → Renews b c → Renews a c
Renews-on a b c (inl e) (inl f) = inl (f ∙ e)
Renews-on a b c (inl e) (inr g) = inr (subst (λ x. counter_of x < counter_of c) e g)
Renews-on a b c (inr g) (inl f) = inr (subst (λ x. counter_of a < counter_of x) (sym f) g)
Renews-on a b c (inr g) (inr h) = inr (omega (arith, g, h))

pub Grows-on : (a b c : Node) → Grows a b → Grows b c → Grows a c
Grows-on a b c g h = record {
  config_is = h.config_is ∙ g.config_is;
  counters = λ k inside. omega (arith, g.counters k inside, h.counters k (subst (λ x. k < length x.routes) (sym g.config_is) inside));
  slots = λ t. Renews-on _ (slot_at b.kept.slots t) _ (g.slots t) (h.slots t);
}
