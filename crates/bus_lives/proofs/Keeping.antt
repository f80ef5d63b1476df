-- What a slot holds over the stages of lives
use Rattle.std.specs.Prelude.{◌≡◌, ℕ, ◌<◌, ◌⊎◌, true, Option, None, Some, List, [], ◌∷◌, ◌++◌, length, set}
use Rattle.std.proofs.Common.{refl, sym, ◌∙◌, ap, subst, arith, inl, inr, get_or-set_same, get_or-set_other}
use Rattle.std.proofs.lemmas.Bool.Decides.{eqb_tells}
use Rattle.key_slots.specs.declared.memory.Slot.{Slot}
use Rattle.key_slots.specs.declared.memory.Slot.TheVariants.{Empty, Filled}
use Rattle.key_slots.specs.Slots.{slot_at, counter_of, is_empty}
use Rattle.bus_machine.specs.declared.lines.Line.{Line}
use Rattle.bus_machine.specs.declared.lines.Line.TheVariants.{Keyed, Loaded}
use Rattle.bus_machine.specs.Node.{Node, Change, slot_to, bound_to, changed}
use Rattle.bus_machine.specs.Sound.{Sound}
use Rattle.bus_machine.specs.Steps.{Act, loads, keys, PowersUp, NodeStep}
use Rattle.bus_machine.specs.Bus.{World, node_of, Instant, act_of, Step, node_at, SoundBus}
use Rattle.bus_machine.specs.KeysKept.{slot_in, IsTaken, Acknowledges, FailsUpdate, GoesOn, StaysOrRenews}
use Rattle.bus_laws.proofs.CallerLemmas.{pending_forward, Effect, effect_of, stays, sent, accepted, took, decided, faulted, powers, refused, routed}
use Rattle.bus_laws.proofs.CallerLemmas.{send_routed, Renews, step_at, other_at, None≢Some, pending_step, KeysKept-run, SettledSlotsStay-run}
use Rattle.bus_laws.proofs.CallerLemmas.{Pairwise, Each-map, AllPairs-Pairwise}
use Rattle.bus_lives.specs.Lives.{Stage, life_begins, moment_passes, world_at, world_behind, AtSomeStage, SlotsOutlast, RenewsSlot, HoldsLatest, UpdatesOutlast}
use Rattle.bus_lives.proofs.Stages.{StagesFrom, stage_sound, stage_grows, GrowsInto, each_grown, ChainFrom, Chained, chain_rest, chain_front, chain_behind}

-- ---- slots go on

filled_before : (old new : Slot) → counter_of old < counter_of new → is_empty new ≡ true → is_empty old ≡ true
filled_before old Empty more e = absurd (let no : ⊥ = omega (arith, more) in no)
filled_before old (Filled key counter flags) more e = cc

goes_on : (old new : Slot) → Renews old new → GoesOn old new
goes_on old new (inl e) = record { counter = omega (arith, ap counter_of e); filled = λ f. ap is_empty (sym e) ∙ f }
goes_on old new (inr more) = record { counter = omega (arith, more); filled = filled_before old new more }

-- of two stages the slots at the later go on
abbrev SlotsGo : ℕ → Stage → Stage → Type 0
SlotsGo n stage later = (i t : ℕ) → i < n → GoesOn (slot_in (world_at stage) i t) (slot_in (world_at later) i t)

slots_go : (n : ℕ) (xs : List Stage) → Chained n xs → Pairwise (SlotsGo n) xs
slots_go n [] c = tt
slots_go n (x ∷ xs) c = (
  Each-map (λ (stage : Stage). GrowsInto (world_at x) (world_at stage)) (SlotsGo n x)
      (λ stage grown i t inside. goes_on (slot_in (world_at x) i t) (slot_in (world_at stage) i t) ((grown.nodes i (omega (arith, inside, c.count))).slots t))
      xs (each_grown (world_at x) xs c.sound c.stages),
  slots_go n xs (chain_rest n x xs c),
)

pub slots_outlast : (n : ℕ) (xs : List Stage) → Chained n xs → SlotsOutlast n xs
slots_outlast n xs c = AllPairs-Pairwise (SlotsGo n) xs (slots_go n xs c)

-- ---- what a slot holds after one stage

-- as before, or what was pending for it
abbrev SameOrPending : Node → Node → ℕ → Type 0
SameOrPending node after t =
    (slot_at after.kept.slots t ≡ slot_at node.kept.slots t) ⊎ (node.pending ≡ Some (slot_to t (slot_at after.kept.slots t)))

same_change : (target t : ℕ) (slot held : Slot) → t ≡ target → held ≡ slot → slot_to t held ≡ slot_to target slot
same_change target t slot held e f = ap (λ (i : ℕ). slot_to i held) e ∙ ap (slot_to target) f

changed_slot : (node : Node) (change : Change) (after : Node) (t : ℕ) → Sound node → node.pending ≡ Some change → after.kept ≡ changed change node.kept → SameOrPending node after t
changed_slot node (slot_to target slot) after t s pending e =
    let at : after.kept.slots ≡ set node.kept.slots target slot = ap (λ k. k.slots) e in
    let inside : target < length node.kept.slots = omega (arith, (pending_forward node (slot_to target slot) s pending).0, s.slots.size) in
    elim (eqb_tells t target) [
      | inl same ↦
          let held : slot_at after.kept.slots t ≡ slot =
          ap (λ xs. slot_at xs t) at ∙ subst (λ (i : ℕ). slot_at (set node.kept.slots target slot) i ≡ slot) (sym same.1) (get_or-set_same node.kept.slots target slot Empty inside) in
          inr (pending ∙ ap Some (sym (same_change target t slot (slot_at after.kept.slots t) same.1 held)))
      | inr other ↦ inl (ap (λ xs. slot_at xs t) at ∙ get_or-set_other node.kept.slots target t slot Empty other.1)
    ]
changed_slot node (bound_to k bound) after t s pending e = inl (ap (λ k. slot_at k.slots t) e)

powered_slot : (node after : Node) (t : ℕ) → Sound node → PowersUp node after → SameOrPending node after t
powered_slot node after t s (inl e) = inl (ap (λ (n : Node). slot_at n.kept.slots t) e)
powered_slot node after t s (inr c) = changed_slot node c.0 after t s c.1 (ap (λ (n : Node). n.kept) c.2)

powered_settled : (node after : Node) → PowersUp node after → after.pending ≡ None
powered_settled node after (inl e) = ap (λ (n : Node). n.pending) e
powered_settled node after (inr c) = ap (λ (n : Node). n.pending) c.2

-- a node on which a change is pending is down: of its slots a step changes none but by a power-up
not_up : (node : Node) (c : Change) → Sound node → node.pending ≡ Some c → node.up ≡ true → ⊥
not_up node c s p up = None≢Some c node.pending (s.settled up) p

down_slot : (node after : Node) (t : ℕ) (c : Change) → Sound node → node.pending ≡ Some c → Effect node after → SameOrPending node after t
down_slot node after t c s p (stays e) = inl (ap (λ (n : Node). slot_at n.kept.slots t) e)
down_slot node after t c s p (sent id payload v pdu step) = absurd (not_up node c s p (send_routed node id payload step.allowed).0.up)
down_slot node after t c s p (accepted id pdu payload v step) = absurd (not_up node c s p (routed node id pdu step.judged.allowed).up)
down_slot node after t c s p (took request u takes e) = absurd (not_up node c s p takes.is_up)
down_slot node after t c s p (decided good e) = inl (ap (λ (n : Node). slot_at n.kept.slots t) e)
down_slot node after t c s p (faulted act f) = inl (ap (λ (n : Node). slot_at n.kept.slots t) f.2)
down_slot node after t c s p (powers up) = powered_slot node after t s up
down_slot node after t c s p (refused e) = inl (ap (λ (n : Node). slot_at n.kept.slots t) e)

-- ---- one moment

-- slot t of node i is as before, or the moment is an update of it to what it holds now, or that was pending
abbrev SlotMoves : ℕ → ℕ → World → Instant → Type 0
SlotMoves i t world m =
    (slot_in m.after i t ≡ slot_in world i t)
    ⊎ (RenewsSlot i t (slot_in m.after i t) world m ⊎ ((node_at world i).pending ≡ Some (slot_to t (slot_in m.after i t))))

settled_slot : (i t : ℕ) (world : World) (m : Instant) → StaysOrRenews i t world (m ∷ []) → SlotMoves i t world m
settled_slot i t world m holds = elim holds [
  | inl e ↦ inl e
  | inr (inl (inl a)) ↦ inr (inl (inl a))
  | inr (inl (inr never)) ↦ absurd never
  | inr (inr (inl f)) ↦ inr (inl (inr f))
  | inr (inr (inr never)) ↦ absurd never
]

pending_or_not : (pending : Option Change) → (pending ≡ None) ⊎ ((c : Change) × (pending ≡ Some c))
pending_or_not None = inl refl
pending_or_not (Some c) = inr (c, refl)

slot_moves : (i t : ℕ) (world : World) (m : Instant) → SoundBus world → Step world m.command m.line m.after → SlotMoves i t world m
slot_moves i t world m s step = elim (pending_or_not (node_at world i).pending) [
  | inl none ↦ settled_slot i t world m (SettledSlotsStay-run world (m ∷ []) m.after s (step, refl) [] (m ∷ []) [] i t refl none)
  | inr some ↦ elim (eqb_tells i (node_of m.command)) [
    | inl here ↦
        let at = step_at world m.command m.line m.after step in
        let own : NodeStep (node_at world i) (act_of world m.command) m.line (node_at m.after i) =
        subst (λ (j : ℕ). NodeStep (node_at world j) (act_of world m.command) m.line (node_at m.after j)) (sym here.1) at.step in
        let sound : Sound (node_at world i) = subst (λ (j : ℕ). Sound (node_at world j)) (sym here.1) (s (node_of m.command) at.inside) in
        elim (down_slot (node_at world i) (node_at m.after i) t some.0 sound some.1 (effect_of (node_at world i) (act_of world m.command) m.line (node_at m.after i) own)) [
          | inl e ↦ inl e
          | inr p ↦ inr (inr p)
        ]
    | inr other ↦ inl (ap (λ (n : Node). slot_at n.kept.slots t) (other_at world m.command m.line m.after step i other.1))
  ]
]

-- a change that is pending after the moment was pending before it, or its update failed
pending_moves : (i t : ℕ) (slot : Slot) (world : World) (m : Instant) → Step world m.command m.line m.after → (node_at m.after i).pending ≡ Some (slot_to t slot)
    → FailsUpdate i t slot world m ⊎ ((node_at world i).pending ≡ Some (slot_to t slot))
pending_moves i t slot world m step p = elim (eqb_tells i (node_of m.command)) [
  | inl here ↦
      let at = step_at world m.command m.line m.after step in
      let own : NodeStep (node_at world i) (act_of world m.command) m.line (node_at m.after i) =
      subst (λ (j : ℕ). NodeStep (node_at world j) (act_of world m.command) m.line (node_at m.after j)) (sym here.1) at.step in
      elim (pending_step (node_at world i) (act_of world m.command) m.line (node_at m.after i) (slot_to t slot) own p) [
        | inl f ↦ inl (f.0, (sym here.1, f.1))
        | inr q ↦ inr q.0
      ]
  | inr other ↦ inr (sym (ap (λ (n : Node). n.pending) (other_at world m.command m.line m.after step i other.1)) ∙ p)
]

-- ---- several stages

-- slot t of node i, which holds this after the stages, held it before them, or a moment of them put it there, or it was
-- pending
abbrev Renewed : ℕ → ℕ → World → List Stage → Slot → Type 0
Renewed i t world xs final =
    (final ≡ slot_in world i t) ⊎ (AtSomeStage (RenewsSlot i t final) world xs ⊎ ((node_at world i).pending ≡ Some (slot_to t final)))

begun : (i t : ℕ) (world first : World) (xs : List Stage) (final : Slot) → Sound (node_at world i) → PowersUp (node_at world i) (node_at first i)
    → Renewed i t first xs final → Renewed i t world (life_begins first ∷ xs) final
begun i t world first xs final s up (inl f) = elim (powered_slot (node_at world i) (node_at first i) t s up) [
  | inl e ↦ inl (f ∙ e)
  | inr p ↦ inr (inr (p ∙ ap (λ (slot : Slot). Some (slot_to t slot)) (sym f)))
]
begun i t world first xs final s up (inr (inl a)) = inr (inl a)
begun i t world first xs final s up (inr (inr p)) =
    absurd (None≢Some (slot_to t final) (node_at first i).pending (powered_settled (node_at world i) (node_at first i) up) p)

passed : (i t : ℕ) (world : World) (m : Instant) (xs : List Stage) (final : Slot) → SoundBus world → Step world m.command m.line m.after
    → Renewed i t m.after xs final → Renewed i t world (moment_passes m ∷ xs) final
passed i t world m xs final s step (inl f) = elim (slot_moves i t world m s step) [
  | inl e ↦ inl (f ∙ e)
  | inr (inl u) ↦ inr (inl (inl (subst (λ (slot : Slot). RenewsSlot i t slot world m) (sym f) u)))
  | inr (inr p) ↦ inr (inr (p ∙ ap (λ (slot : Slot). Some (slot_to t slot)) (sym f)))
]
passed i t world m xs final s step (inr (inl a)) = inr (inl (inr a))
passed i t world m xs final s step (inr (inr p)) = elim (pending_moves i t final world m step p) [
  | inl fails ↦ inr (inl (inl (inr fails)))
  | inr q ↦ inr (inr q)
]

renewed : (i t : ℕ) (world : World) (xs : List Stage) → SoundBus world → i < length world.nodes → StagesFrom world xs → Renewed i t world xs (slot_in (world_behind world xs) i t)
renewed i t world [] s inside run = inl refl
renewed i t world (life_begins first ∷ xs) s inside run =
    let g = stage_grows world (life_begins first) s run.0 in
    begun i t world first xs (slot_in (world_behind first xs) i t) (s i inside) (run.0.power_up i inside)
    (renewed i t first xs (stage_sound world (life_begins first) s run.0) (omega (arith, inside, g.count)) run.1)
renewed i t world (moment_passes m ∷ xs) s inside run =
    let g = stage_grows world (moment_passes m) s run.0 in
    passed i t world m xs (slot_in (world_behind m.after xs) i t) s run.0
    (renewed i t m.after xs (stage_sound world (moment_passes m) s run.0) (omega (arith, inside, g.count)) run.1)

-- ---- after an acknowledged update

-- nothing is pending then
taken_settled : (node : Node) (act : Act) (line : Line) (after : Node) → Sound node → NodeStep node act line after → IsTaken line → after.pending ≡ None
taken_settled node (loads request) (Loaded reply) after s step is = ap (λ (n : Node). n.pending) step.3 ∙ s.settled step.1.is_up
taken_settled node (keys update authkey) (Keyed told) after s step is = ap (λ (n : Node). n.pending) step.2.3 ∙ s.settled step.2.1.is_up
taken_settled node act (Loaded reply) after s step is = absurd step
taken_settled node act (Keyed told) after s step is = absurd step
taken_settled node act line after s step is = absurd is

-- and the slot holds the update
taken_slot : (i t : ℕ) (slot : Slot) (world : World) (m : Instant) → SoundBus world → Step world m.command m.line m.after → Acknowledges i t slot world m → slot_in m.after i t ≡ slot
taken_slot i t slot world m s step is = elim ((KeysKept-run world (m ∷ []) m.after s (step, refl)).updates_hold [] m [] [] i t slot refl is (λ other never. never)) [
  | inl e ↦ e
  | inr never ↦ absurd never
]

holds_latest : (i t : ℕ) (slot : Slot) (world : World) (m : Instant) (since : List Stage) → SoundBus world → Step world m.command m.line m.after → StagesFrom m.after since
    → Acknowledges i t slot world m → HoldsLatest i t slot m.after since
holds_latest i t slot world m since s step run is =
    let here : node_of m.command ≡ i = is.1.0 in
    let at = step_at world m.command m.line m.after step in
    let own : NodeStep (node_at world i) (act_of world m.command) m.line (node_at m.after i) =
    subst (λ (j : ℕ). NodeStep (node_at world j) (act_of world m.command) m.line (node_at m.after j)) here at.step in
    let within : i < length world.nodes = omega (arith, here, at.inside) in
    let g = stage_grows world (moment_passes m) s step in
    let none : (node_at m.after i).pending ≡ None = taken_settled (node_at world i) (act_of world m.command) m.line (node_at m.after i) (s i within) own is.0 in
    elim (renewed i t m.after since (stage_sound world (moment_passes m) s step) (omega (arith, within, g.count)) run) [
      | inl e ↦ inl (e ∙ taken_slot i t slot world m s step is)
      | inr (inl a) ↦ inr a
      | inr (inr p) ↦ absurd (None≢Some (slot_to t (slot_in (world_behind m.after since) i t)) (node_at m.after i).pending none p)
    ]

pub updates_outlast : (n : ℕ) (xs : List Stage) → Chained n xs → UpdatesOutlast xs
updates_outlast n xs c = λ done stage m since later i t slot all is.
    let front : Chained n (done ++ stage ∷ moment_passes m ∷ since) =
    chain_front n (done ++ stage ∷ moment_passes m ∷ since) later (subst (λ (ys : List Stage). Chained n ys) all c) in
    let chain : ChainFrom n (world_at stage) (moment_passes m ∷ since) = chain_behind n done (stage ∷ moment_passes m ∷ since) front in
    holds_latest i t slot (world_at stage) m since chain.sound chain.stages.0 chain.stages.1 is
