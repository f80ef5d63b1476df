-- What a slot holds after moments that acknowledge no update of it
use Rattle.std.specs.Prelude.{◌≡◌, ℕ, ◌<◌, ◌⊎◌, true, None, Some, List, [], ◌∷◌, ◌++◌, length, set}
use Rattle.std.proofs.Common.{sym, ◌∙◌, ap, subst, arith, inl, inr, get_or-set_same, get_or-set_other}
use Rattle.std.proofs.lemmas.Bool.Decides.{eqb_tells}
use Rattle.key_slots.specs.declared.memory.Slot.{Slot}
use Rattle.key_slots.specs.declared.memory.Slot.TheVariants.{Empty, Filled}
use Rattle.key_slots.specs.Slots.{slot_at, counter_of, is_empty}
use Rattle.memory_update.specs.declared.messages.Request.{Request}
use Rattle.memory_update.specs.declared.messages.Update.{Update}
use Rattle.memory_update.specs.Loading.{slot_of}
use Rattle.machine_runs.specs.Run.{Run}
use Rattle.machine_runs.proofs.CallerLemmas.{Run-split}
use Rattle.bus_machine.specs.declared.lines.Line.{Line}
use Rattle.bus_machine.specs.declared.lines.Line.TheVariants.{Sent, Accepted, FreshnessFailure, VerificationFailure, Keyed, Loaded, Boot, Up, Armed, NoFrame, Refused}
use Rattle.bus_machine.specs.declared.lines.Refusal.TheVariants.{MemoryFailure}
use Rattle.bus_machine.specs.Node.{Node, Change, slot_to, bound_to, changed, with_slot}
use Rattle.bus_machine.specs.Sound.{Sound}
use Rattle.bus_machine.specs.Steps.{Act, sends, receives, loads, keys, boots, cuts, arms, hears_nothing, TakesUpdate, Makes, NodeStep}
use Rattle.bus_machine.specs.Bus.{World, node_of, Instant, Moments, act_of, Step, node_at, SoundBus, state_after, AtSome}
use Rattle.bus_machine.specs.KeysKept.{slot_in, IsTaken, Acknowledges, FailsUpdate, UpdatesHold, GoesOn, SlotsGoOn, KeysKept, StaysOrRenews, SettledSlotsStay}
use Rattle.bus_laws.proofs.SoundSteps.{takes_forward, pending_forward}
use Rattle.bus_laws.proofs.Growth.{Renews, slots_by_bound}
use Rattle.bus_laws.proofs.BusSteps.{step_at, other_at, as_many_run, Sound-bus, Sound-run, Grows-run, state_is}
use Rattle.bus_laws.proofs.Requests.{taken_one, built_one}
use Rattle.bus_laws.proofs.Pending.{None≢Some, pending_step}

-- ---- one step

-- slot t is as it was, or the act is an update of it that was taken, or it came with a power-up
pub data SlotStep (node : Node) (act : Act) (line : Line) (after : Node) (t : ℕ) : Type 0 where
  unchanged : slot_at after.kept.slots t ≡ slot_at node.kept.slots t → SlotStep node act line after t
  updated : IsTaken line → Makes node act (slot_to t (slot_at after.kept.slots t)) → SlotStep node act line after t
  by_power : node.pending ≡ Some (slot_to t (slot_at after.kept.slots t)) → SlotStep node act line after t

slot_put : (slots : List Slot) (target t : ℕ) (slot : Slot) → target < length slots
    → ((t ≡ target) × (slot_at (set slots target slot) t ≡ slot)) ⊎ (slot_at (set slots target slot) t ≡ slot_at slots t)
slot_put slots target t slot inside = elim (eqb_tells t target) [
  | inl same ↦ inl (same.1, subst (λ i. slot_at (set slots target slot) i ≡ slot) (sym same.1) (get_or-set_same slots target slot Empty inside))
  | inr other ↦ inr (get_or-set_other slots target t slot Empty other.1)
]

-- if a slot is put by this update, the change is that of the update
put_change : (target t : ℕ) (slot held : Slot) → t ≡ target → held ≡ slot → slot_to t held ≡ slot_to target slot
put_change target t slot held e f = ap (λ i. slot_to i held) e ∙ ap (slot_to target) f

took_slot : (node : Node) (request : Request) (u : Update) (after : Node) (t : ℕ) → Sound node → TakesUpdate node request u → after ≡ with_slot u.id (slot_of u) node
    → (slot_to t (slot_at after.kept.slots t) ≡ slot_to u.id (slot_of u)) ⊎ (slot_at after.kept.slots t ≡ slot_at node.kept.slots t)
took_slot node request u after t s takes e =
    let at : after.kept.slots ≡ set node.kept.slots u.id (slot_of u) = ap (λ n. n.kept.slots) e in
    elim (slot_put node.kept.slots u.id t (slot_of u) (subst (λ n. u.id < n) (sym s.slots.size) (takes_forward node request u s takes).0)) [
      | inl p ↦ inl (put_change u.id t (slot_of u) (slot_at after.kept.slots t) p.0 (ap (λ xs. slot_at xs t) at ∙ p.1))
      | inr q ↦ inr (ap (λ xs. slot_at xs t) at ∙ q)
    ]

abbrev pending_to : Node → Change → Type 0
pending_to node change = node.pending ≡ Some change

powered_slot : (node : Node) (change : Change) (after : Node) (t : ℕ) → Sound node → pending_to node change → after.kept ≡ changed change node.kept → SlotStep node cuts Up after t
powered_slot node (slot_to target slot) after t s pending e =
    let at : after.kept.slots ≡ set node.kept.slots target slot = ap (λ k. k.slots) e in
    elim (slot_put node.kept.slots target t slot (subst (λ n. target < n) (sym s.slots.size) (pending_forward node (slot_to target slot) s pending).0)) [
      | inl p ↦ by_power (pending ∙ ap Some (sym (put_change target t slot (slot_at after.kept.slots t) p.0 (ap (λ xs. slot_at xs t) at ∙ p.1))))
      | inr q ↦ unchanged (ap (λ xs. slot_at xs t) at ∙ q)
    ]
powered_slot node (bound_to k x) after t s pending e = unchanged (ap (λ k. slot_at k.slots t) e)

kept_slots : (node after : Node) (t : ℕ) → after ≡ node → slot_at after.kept.slots t ≡ slot_at node.kept.slots t
kept_slots node after t e = ap (λ n. slot_at n.kept.slots t) e

slot_step : (node : Node) (act : Act) (line : Line) (after : Node) (t : ℕ) → Sound node → NodeStep node act line after → SlotStep node act line after t
slot_step node (sends id payload) (Sent told v pdu) after t s step = unchanged (ap (λ n. slot_at n.kept.slots t) step.1.after_is ∙ ap (λ xs. slot_at xs t) (slots_by_bound node.kept _ _ _))
slot_step node (sends id payload) (Refused MemoryFailure) after t s step = unchanged (ap (λ n. slot_at n.kept.slots t) step.2)
slot_step node (sends id payload) (Refused refusal) after t s step = unchanged (kept_slots node after t step.1)
slot_step node (receives id pdu) (Accepted told v payload source) after t s step = unchanged (ap (λ n. slot_at n.kept.slots t) step.1.after_is ∙ ap (λ xs. slot_at xs t) (slots_by_bound node.kept _ _ _))
slot_step node (receives id pdu) FreshnessFailure after t s step = unchanged (kept_slots node after t step.1)
slot_step node (receives id pdu) VerificationFailure after t s step = unchanged (kept_slots node after t step.1)
slot_step node (receives id pdu) (Refused MemoryFailure) after t s step = unchanged (ap (λ n. slot_at n.kept.slots t) step.2)
slot_step node (receives id pdu) (Refused refusal) after t s step = unchanged (kept_slots node after t step.1)
slot_step node (loads request) (Loaded reply) after t s step = elim (took_slot node request step.0 after t s step.1 step.3) [
  | inl put ↦ updated tt (step.0, step.1, put)
  | inr other ↦ unchanged other
]
slot_step node (loads request) (Refused MemoryFailure) after t s step = unchanged (ap (λ n. slot_at n.kept.slots t) step.2)
slot_step node (loads request) (Refused refusal) after t s step = unchanged (kept_slots node after t step.1)
slot_step node (keys update authkey) (Keyed told) after t s step = elim (took_slot node step.0 step.2.0 after t s step.2.1 step.2.3) [
  | inl put ↦ updated tt (step.0, step.1, (step.2.0, step.2.1, put))
  | inr other ↦ unchanged other
]
slot_step node (keys update authkey) (Refused MemoryFailure) after t s step = unchanged (ap (λ n. slot_at n.kept.slots t) step.2)
slot_step node (keys update authkey) (Refused refusal) after t s step = unchanged (kept_slots node after t step.3)
slot_step node (boots image) (Boot good) after t s step = unchanged (ap (λ n. slot_at n.kept.slots t) step.after_is)
slot_step node (boots image) (Refused refusal) after t s step = unchanged (kept_slots node after t step.1)
slot_step node cuts Up after t s (inl e) = unchanged (ap (λ n. slot_at n.kept.slots t) e)
slot_step node cuts Up after t s (inr c) = powered_slot node c.0 after t s c.1 (ap (λ n. n.kept) c.2)
slot_step node cuts (Refused MemoryFailure) after t s step = unchanged (ap (λ n. slot_at n.kept.slots t) step)
slot_step node arms Armed after t s step = unchanged (kept_slots node after t step)
slot_step node hears_nothing NoFrame after t s step = unchanged (kept_slots node after t step)
slot_step node _ _ after t s step = absurd step

-- an acknowledged update is in its slot, and nothing is pending
pub record Put (after : Node) (t : ℕ) (slot : Slot) : Type 0 where
  pub holds : slot_at after.kept.slots t ≡ slot
  pub settled : after.pending ≡ None

slot_of_change : Change → Slot
slot_of_change (slot_to target slot) = slot
slot_of_change (bound_to k x) = Empty

target_of_change : Change → ℕ
target_of_change (slot_to target slot) = target
target_of_change (bound_to k x) = 0

same_slot : (t target : ℕ) (held slot : Slot) → slot_to t held ≡ slot_to target slot → (t ≡ target) × (held ≡ slot)
unfolding slot_of_change target_of_change
same_slot t target held slot e = (ap target_of_change e, ap slot_of_change e)

put_by : (node : Node) (request : Request) (u w : Update) (after : Node) (t : ℕ) (slot : Slot) → Sound node → TakesUpdate node request u → TakesUpdate node request w
    → slot_to t slot ≡ slot_to w.id (slot_of w) → after ≡ with_slot u.id (slot_of u) node → Put after t slot
put_by node request u w after t slot s a b e is =
    let one : u ≡ w = taken_one node request u w s a b in
    let p = same_slot t w.id slot (slot_of w) e in
    let at : t ≡ u.id = p.0 ∙ sym (ap (λ u. u.id) one) in
    let inside : u.id < length node.kept.slots = subst (λ n. u.id < n) (sym s.slots.size) (takes_forward node request u s a).0 in
    record {
      holds = ap (λ n. slot_at n.kept.slots t) is
          ∙ subst (λ i. slot_at (set node.kept.slots u.id (slot_of u)) i ≡ slot_of u) (sym at) (get_or-set_same node.kept.slots u.id (slot_of u) Empty inside)
          ∙ ap slot_of one ∙ sym p.1;
      settled = ap (λ n. n.pending) is ∙ s.settled a.is_up;
    }

acknowledged : (node : Node) (act : Act) (line : Line) (after : Node) (t : ℕ) (slot : Slot) → Sound node → NodeStep node act line after → IsTaken line → Makes node act (slot_to t slot) → Put after t slot
acknowledged node (loads request) (Loaded reply) after t slot s step is makes =
    put_by node request step.0 makes.0 after t slot s step.1 makes.1 makes.2 step.3
acknowledged node (keys update authkey) (Keyed told) after t slot s step is makes =
    let r : step.0 ≡ makes.0 = built_one step.0 makes.0 authkey update step.1 makes.1 in
    put_by node makes.0 step.2.0 makes.2.0 after t slot s (subst (λ r. TakesUpdate node r step.2.0) r step.2.1) makes.2.1 makes.2.2 step.2.3
acknowledged node act (Loaded reply) after t slot s step is makes = absurd step
acknowledged node act (Keyed told) after t slot s step is makes = absurd step
acknowledged node act line after t slot s step is makes = absurd is

-- ---- a run of which no moment acknowledges an update of the slot

-- it is as it was, or holds the update of a moment that failed, or one that was pending from the start
abbrev pub Holds : ℕ → ℕ → World → Moments → Slot → Type 0
Holds i t start ms final =
    (final ≡ slot_in start i t) ⊎ (AtSome (FailsUpdate i t final) start ms ⊎ ((node_at start i).pending ≡ Some (slot_to t final)))

holds_here : (start : World) (m : Instant) (ms : Moments) (i t : ℕ) (final : Slot) → node_of m.command ≡ i
    → NodeStep (node_at start i) (act_of start m.command) m.line (node_at m.after i)
    → SlotStep (node_at start i) (act_of start m.command) m.line (node_at m.after i) t
    → ((other : Slot) → ¬ AtSome (Acknowledges i t other) start (m ∷ ms)) → Holds i t m.after ms final → Holds i t start (m ∷ ms) final
holds_here start m ms i t final node_is step (unchanged e) none (inl f) = inl (f ∙ e)
holds_here start m ms i t final node_is step (updated is makes) none (inl f) = absurd (none (slot_in m.after i t) (inl (is, (node_is, makes))))
holds_here start m ms i t final node_is step (by_power pending) none (inl f) = inr (inr (pending ∙ ap (λ s. Some (slot_to t s)) (sym f)))
holds_here start m ms i t final node_is step _ none (inr (inl a)) = inr (inl (inr a))
holds_here start m ms i t final node_is step _ none (inr (inr p)) = elim (pending_step _ _ m.line _ (slot_to t final) step p) [
  | inl f ↦ inr (inl (inl (f.0, (node_is, f.1))))
  | inr q ↦ inr (inr q.0)
]

holds_other : (start : World) (m : Instant) (ms : Moments) (i t : ℕ) (final : Slot) → node_at m.after i ≡ node_at start i → Holds i t m.after ms final → Holds i t start (m ∷ ms) final
holds_other start m ms i t final e (inl f) = inl (f ∙ ap (λ n. slot_at n.kept.slots t) e)
holds_other start m ms i t final e (inr (inl a)) = inr (inl (inr a))
holds_other start m ms i t final e (inr (inr p)) = inr (inr (sym (ap (λ n. n.pending) e) ∙ p))

holds_run : (start : World) (ms : Moments) (now : World) (i t : ℕ) → SoundBus start → Run Step start ms now
    → ((other : Slot) → ¬ AtSome (Acknowledges i t other) start ms) → Holds i t start ms (slot_in now i t)
holds_run start [] now i t s run none = inl (ap (λ w. slot_in w i t) run)
holds_run start (m ∷ ms) now i t s run none =
    let rest = holds_run m.after ms now i t (Sound-bus start m.command m.line m.after s run.0) run.1 (λ other a. none other (inr a)) in
    let at = step_at start m.command m.line m.after run.0 in
    elim (eqb_tells i (node_of m.command)) [
      | inl here ↦
          let step = subst (λ j. NodeStep (node_at start j) (act_of start m.command) m.line (node_at m.after j)) (sym here.1) at.step in
          let sound = subst (λ j. Sound (node_at start j)) (sym here.1) (s (node_of m.command) at.inside) in
          holds_here start m ms i t (slot_in now i t) (sym here.1) step (slot_step _ _ m.line _ t sound step) none rest
      | inr other ↦ holds_other start m ms i t (slot_in now i t) (other_at start m.command m.line m.after run.0 i other.1) rest
    ]

-- ---- acknowledged updates hold

held : (start : World) (m : Instant) (since : Moments) (now : World) (i t : ℕ) (slot : Slot) → SoundBus start → Run Step start (m ∷ since) now
    → Acknowledges i t slot start m → ((other : Slot) → ¬ AtSome (Acknowledges i t other) m.after since)
    → (slot_in now i t ≡ slot) ⊎ AtSome (FailsUpdate i t (slot_in now i t)) m.after since
held start m since now i t slot s run is none =
    let at = step_at start m.command m.line m.after run.0 in
    let here : node_of m.command ≡ i = is.1.0 in
    let step = subst (λ j. NodeStep (node_at start j) (act_of start m.command) m.line (node_at m.after j)) here at.step in
    let sound = subst (λ j. Sound (node_at start j)) here (s (node_of m.command) at.inside) in
    let put = acknowledged _ _ m.line _ t slot sound step is.0 is.1.1 in
    elim (holds_run m.after since now i t (Sound-bus start m.command m.line m.after s run.0) run.1 none) [
      | inl e ↦ inl (e ∙ put.holds)
      | inr (inl a) ↦ inr a
      | inr (inr p) ↦ absurd (None≢Some _ _ put.settled p)
    ]

UpdatesHold-run : (start : World) (ms : Moments) (now : World) → SoundBus start → Run Step start ms now → UpdatesHold start ms
UpdatesHold-run start ms now s run done m since later i t slot all is none =
    let whole = Run-split Step start (done ++ m ∷ since) later now (subst (λ xs. Run Step start xs now) all run) in
    let parts = Run-split Step start done (m ∷ since) whole.0 whole.1 in
    let at : parts.0 ≡ state_after start done = state_is start done parts.0 parts.1 in
    let end : whole.0 ≡ state_after m.after since = state_is m.after since whole.0 parts.2.1 in
    subst (λ w. (slot_in w i t ≡ slot) ⊎ AtSome (FailsUpdate i t (slot_in w i t)) m.after since) end
    (held parts.0 m since whole.0 i t slot (Sound-run start done parts.0 s parts.1) parts.2 (subst (λ w. Acknowledges i t slot w m) (sym at) is) none)

-- ---- slots go on

filled_by_counter : (old new : Slot) → counter_of old < counter_of new → is_empty new ≡ true → is_empty old ≡ true
filled_by_counter old Empty more e = absurd (omega (arith, more))
filled_by_counter old (Filled key counter flags) more e = cc

GoesOn-Renews : (old new : Slot) → Renews old new → GoesOn old new
GoesOn-Renews old new (inl e) = record { counter = omega (arith, ap counter_of e); filled = λ f. ap is_empty (sym e) ∙ f }
GoesOn-Renews old new (inr more) = record { counter = omega (arith, more); filled = filled_by_counter old new more }

SlotsGoOn-run : (start : World) (ms : Moments) (now : World) → SoundBus start → Run Step start ms now → SlotsGoOn start ms
SlotsGoOn-run start ms now s run done since later i t all inside =
    let whole = Run-split Step start (done ++ since) later now (subst (λ xs. Run Step start xs now) all run) in
    let parts = Run-split Step start done since whole.0 whole.1 in
    let grows = Grows-run parts.0 since whole.0 i (Sound-run start done parts.0 s parts.1) (subst (λ n. i < n) (sym (as_many_run start done parts.0 parts.1)) inside) parts.2 in
    subst (λ w. GoesOn (slot_in w i t) (slot_in (state_after start (done ++ since)) i t)) (state_is start done parts.0 parts.1)
    (subst (λ w. GoesOn (slot_in parts.0 i t) (slot_in w i t)) (state_is start (done ++ since) whole.0 whole.1)
    (GoesOn-Renews _ _ (grows.slots t)))

pub KeysKept-run : (start : World) (ms : Moments) (now : World) → SoundBus start → Run Step start ms now → KeysKept start ms
KeysKept-run start ms now s run = record {
  updates_hold = UpdatesHold-run start ms now s run;
  slots_go_on = SlotsGoOn-run start ms now s run;
}

-- ---- from a world in which nothing is pending

-- a slot is as it was, or holds an update that a moment acknowledged or failed, or one that was pending from the start
abbrev pub Renewed : ℕ → ℕ → World → Moments → Slot → Type 0
Renewed i t start ms final =
    (final ≡ slot_in start i t)
    ⊎ (AtSome (Acknowledges i t final) start ms ⊎ (AtSome (FailsUpdate i t final) start ms ⊎ ((node_at start i).pending ≡ Some (slot_to t final))))

renewed_here : (start : World) (m : Instant) (ms : Moments) (i t : ℕ) (final : Slot) → node_of m.command ≡ i
    → NodeStep (node_at start i) (act_of start m.command) m.line (node_at m.after i)
    → SlotStep (node_at start i) (act_of start m.command) m.line (node_at m.after i) t
    → Renewed i t m.after ms final → Renewed i t start (m ∷ ms) final
renewed_here start m ms i t final node_is step (unchanged e) (inl f) = inl (f ∙ e)
renewed_here start m ms i t final node_is step (updated is makes) (inl f) =
    inr (inl (inl (is, (node_is, subst (λ s. Makes (node_at start i) (act_of start m.command) (slot_to t s)) (sym f) makes))))
renewed_here start m ms i t final node_is step (by_power pending) (inl f) = inr (inr (inr (pending ∙ ap (λ s. Some (slot_to t s)) (sym f))))
renewed_here start m ms i t final node_is step _ (inr (inl a)) = inr (inl (inr a))
renewed_here start m ms i t final node_is step _ (inr (inr (inl a))) = inr (inr (inl (inr a)))
renewed_here start m ms i t final node_is step _ (inr (inr (inr p))) = elim (pending_step _ _ m.line _ (slot_to t final) step p) [
  | inl f ↦ inr (inr (inl (inl (f.0, (node_is, f.1)))))
  | inr q ↦ inr (inr (inr q.0))
]

renewed_other : (start : World) (m : Instant) (ms : Moments) (i t : ℕ) (final : Slot) → node_at m.after i ≡ node_at start i → Renewed i t m.after ms final → Renewed i t start (m ∷ ms) final
renewed_other start m ms i t final e (inl f) = inl (f ∙ ap (λ n. slot_at n.kept.slots t) e)
renewed_other start m ms i t final e (inr (inl a)) = inr (inl (inr a))
renewed_other start m ms i t final e (inr (inr (inl a))) = inr (inr (inl (inr a)))
renewed_other start m ms i t final e (inr (inr (inr p))) = inr (inr (inr (sym (ap (λ n. n.pending) e) ∙ p)))

renewed_run : (start : World) (ms : Moments) (now : World) (i t : ℕ) → SoundBus start → Run Step start ms now → Renewed i t start ms (slot_in now i t)
renewed_run start [] now i t s run = inl (ap (λ w. slot_in w i t) run)
renewed_run start (m ∷ ms) now i t s run =
    let rest = renewed_run m.after ms now i t (Sound-bus start m.command m.line m.after s run.0) run.1 in
    let at = step_at start m.command m.line m.after run.0 in
    elim (eqb_tells i (node_of m.command)) [
      | inl here ↦
          let step = subst (λ j. NodeStep (node_at start j) (act_of start m.command) m.line (node_at m.after j)) (sym here.1) at.step in
          let sound = subst (λ j. Sound (node_at start j)) (sym here.1) (s (node_of m.command) at.inside) in
          renewed_here start m ms i t (slot_in now i t) (sym here.1) step (slot_step _ _ m.line _ t sound step) rest
      | inr other ↦ renewed_other start m ms i t (slot_in now i t) (other_at start m.command m.line m.after run.0 i other.1) rest
    ]

settled_run : (start : World) (ms : Moments) (now : World) (i t : ℕ) → SoundBus start → Run Step start ms now → (node_at start i).pending ≡ None
    → (slot_in now i t ≡ slot_in start i t) ⊎ (AtSome (Acknowledges i t (slot_in now i t)) start ms ⊎ AtSome (FailsUpdate i t (slot_in now i t)) start ms)
settled_run start ms now i t s run none = elim (renewed_run start ms now i t s run) [
  | inl e ↦ inl e
  | inr (inl a) ↦ inr (inl a)
  | inr (inr (inl a)) ↦ inr (inr a)
  | inr (inr (inr p)) ↦ absurd (None≢Some _ _ none p)
]

pub SettledSlotsStay-run : (start : World) (ms : Moments) (now : World) → SoundBus start → Run Step start ms now → SettledSlotsStay start ms
SettledSlotsStay-run start ms now s run done since later i t all none =
    let whole = Run-split Step start (done ++ since) later now (subst (λ xs. Run Step start xs now) all run) in
    let parts = Run-split Step start done since whole.0 whole.1 in
    let at : parts.0 ≡ state_after start done = state_is start done parts.0 parts.1 in
    let end : whole.0 ≡ state_after parts.0 since = state_is parts.0 since whole.0 parts.2 in
    subst (λ w. StaysOrRenews i t w since) at
    (subst (λ w. (slot_in w i t ≡ slot_in parts.0 i t) ⊎ (AtSome (Acknowledges i t (slot_in w i t)) parts.0 since ⊎ AtSome (FailsUpdate i t (slot_in w i t)) parts.0 since)) end
    (settled_run parts.0 since whole.0 i t (Sound-run start done parts.0 s parts.1) parts.2 (subst (λ w. (node_at w i).pending ≡ None) (sym at) none)))
