-- What a step of a bus, and a run, leaves of each of its nodes
use Rattle.std.specs.Prelude.{◌≡◌, ◌≢◌, ℕ, zero, suc, ◌^◌, ◌<◌, Some, List, [], ◌∷◌, ◌++◌, length, get_or, replicate, slice_get}
use Rattle.std.proofs.Common.{refl, sym, ◌∙◌, ap, subst, arith, inl, inr, length-set, get_or-set_same, get_or-set_other}
use Rattle.std.proofs.lemmas.Bool.Decides.{eqb_tells}
use Rattle.std.proofs.lemmas.Option.{get_or_from_slice_get}
use Rattle.std.proofs.lemmas.List.{get_or-map, length-map}
use Rattle.key_slots.specs.declared.memory.Slot.{Slot}
use Rattle.key_slots.specs.declared.memory.Slot.TheVariants.{Empty}
use Rattle.key_slots.specs.Slots.{IsSlot}
use Rattle.machine_runs.specs.Run.{Run}
use Rattle.machine_runs.specs.Members.{MemberSteps}
use Rattle.freshness_routes.specs.Config.{Config, IsConfig}
use Rattle.bus_machine.specs.declared.events.Event.{Event}
use Rattle.bus_machine.specs.declared.lines.Line.{Line}
use Rattle.bus_machine.specs.Node.{first_node, no_route}
use Rattle.bus_machine.specs.Sound.{Sound}
use Rattle.bus_machine.specs.Steps.{NodeStep}
use Rattle.bus_machine.specs.Bus.{World, First, node_of, no_config, config_at, act_of, Step, node_at, SoundBus, Moments, state_after}
use Rattle.bus_laws.proofs.SoundSteps.{Sound-step, Sound-powered}
use Rattle.bus_laws.proofs.Growth.{Grows, Grows-same, Grows-step, Grows-on}

-- the event's node, before and after
pub record StepAt (world : World) (event : Event) (line : Line) (after : World) (i : ℕ) : Type 0 where
  pub inside : i < length world.nodes
  pub step : NodeStep (node_at world i) (act_of world event) line (node_at after i)

inside_of_slice : {A : Type 0} (xs : List A) (i : ℕ) (x : A) → slice_get xs i ≡ Some x → i < length xs
inside_of_slice [] i x e = cc
inside_of_slice (y ∷ ys) zero x e = omega arith
inside_of_slice (y ∷ ys) (suc i) x e = let h = inside_of_slice ys i x e in omega (arith, h)

pub step_at : (world : World) (event : Event) (line : Line) (after : World) → Step world event line after → StepAt world event line after (node_of event)
step_at world event line after step =
    let i : ℕ = node_of event in
    let one : MemberSteps NodeStep world.nodes i (act_of world event) line after.nodes = step.one in
    let within = inside_of_slice world.nodes i one.before one.was in
    let old : node_at world i ≡ one.before = get_or_from_slice_get world.nodes i one.before (first_node no_config) one.was in
    let new : node_at after i ≡ one.after = ap (λ ns. get_or ns i (first_node no_config)) one.others ∙ get_or-set_same world.nodes i one.after (first_node no_config) within in
    record {
      inside = within;
      step = subst (λ n. NodeStep n (act_of world event) line (node_at after i)) (sym old) (subst (λ n. NodeStep one.before (act_of world event) line n) (sym new) one.step);
    }

pub other_at : (world : World) (event : Event) (line : Line) (after : World) → Step world event line after → (i : ℕ) → i ≢ node_of event → node_at after i ≡ node_at world i
other_at world event line after step i other =
    ap (λ ns. get_or ns i (first_node no_config)) step.one.others ∙ get_or-set_other world.nodes (node_of event) i step.one.after (first_node no_config) other

pub as_many : (world : World) (event : Event) (line : Line) (after : World) → Step world event line after → length after.nodes ≡ length world.nodes
as_many world event line after step = ap length step.one.others ∙ length-set world.nodes (node_of event) step.one.after

-- a step keeps each node sound, and each grows
pub Sound-bus : (world : World) (event : Event) (line : Line) (after : World) → SoundBus world → Step world event line after → SoundBus after
Sound-bus world event line after s step i inside =
    let within : i < length world.nodes = subst (λ n. i < n) (as_many world event line after step) inside in
    elim (eqb_tells i (node_of event)) [
      | inl same ↦
          let at = step_at world event line after step in
          subst (λ j. Sound (node_at after j)) (sym same.1) (Sound-step _ _ line _ (s (node_of event) at.inside) at.step)
      | inr other ↦ subst Sound (sym (other_at world event line after step i other.1)) (s i within)
    ]

pub Grows-bus : (world : World) (event : Event) (line : Line) (after : World) → SoundBus world → Step world event line after → (i : ℕ) → i < length world.nodes → Grows (node_at world i) (node_at after i)
Grows-bus world event line after s step i inside = elim (eqb_tells i (node_of event)) [
  | inl same ↦
      let at = step_at world event line after step in
      subst (λ j. Grows (node_at world j) (node_at after j)) (sym same.1) (Grows-step _ _ line _ (s (node_of event) at.inside) at.step)
  | inr other ↦ subst (Grows (node_at world i)) (sym (other_at world event line after step i other.1)) (Grows-same (node_at world i))
]

empty_slots : (n t : ℕ) (d : Slot) → t < n → IsSlot (get_or (replicate n Empty) t d)
empty_slots zero t d h = absurd (omega (arith, h))
empty_slots (suc n) zero d h = tt
empty_slots (suc n) (suc t) d h = empty_slots n t d (omega (arith, h))

pub first_at : (bus : List Config) (i : ℕ) → i < length bus → node_at (First bus) i ≡ first_node (config_at bus i)
first_at bus i inside = get_or-map first_node bus i no_config (first_node no_config) inside

-- the first world is sound
pub Sound-first : (bus : List Config) → ((i : ℕ) → i < length bus → IsConfig (config_at bus i)) → SoundBus (First bus)
Sound-first bus good i inside =
    let within : i < length bus = subst (λ n. i < n) (length-map bus first_node) inside in
    let c : Config = config_at bus i in
    subst Sound (sym (first_at bus i within))
    (Sound-powered c _ (good i within) (record { size = refl; slots_are = λ t d h. empty_slots 14 t d h }) (length-map c.routes (λ r. r.start))
    (λ k fits. subst (λ n. n < 2 ^ 64) (sym (get_or-map (λ r. r.start) c.routes k no_route 0 fits)) ((good i within).are_routes k no_route fits).start_fits))

pub Sound-run : (start : World) (ms : Moments) (now : World) → SoundBus start → Run Step start ms now → SoundBus now
Sound-run start [] now s run = subst SoundBus (sym run) s
Sound-run start (m ∷ ms) now s run = Sound-run m.after ms now (Sound-bus start m.command m.line m.after s run.0) run.1

-- over a whole run each node grows
pub Grows-run : (start : World) (ms : Moments) (now : World) (i : ℕ) → SoundBus start → i < length start.nodes → Run Step start ms now → Grows (node_at start i) (node_at now i)
Grows-run start [] now i s inside run = subst (λ w. Grows (node_at start i) (node_at w i)) (sym run) (Grows-same (node_at start i))
Grows-run start (m ∷ ms) now i s inside run =
    Grows-on _ (node_at m.after i) _ (Grows-bus start m.command m.line m.after s run.0 i inside)
    (Grows-run m.after ms now i (Sound-bus start m.command m.line m.after s run.0) (subst (λ n. i < n) (sym (as_many start m.command m.line m.after run.0)) inside) run.1)

pub as_many_run : (start : World) (ms : Moments) (now : World) → Run Step start ms now → length now.nodes ≡ length start.nodes
as_many_run start [] now run = ap (λ w. length w.nodes) run
as_many_run start (m ∷ ms) now run = as_many_run m.after ms now run.1 ∙ as_many start m.command m.line m.after run.0

-- the world after the moments of a run
pub state_is : (start : World) (ms : Moments) (now : World) → Run Step start ms now → now ≡ state_after start ms
state_is start [] now run = run
state_is start (m ∷ ms) now run = state_is m.after ms now run.1

pub state_after-append : (start : World) (ms more : Moments) → state_after start (ms ++ more) ≡ state_after (state_after start ms) more
state_after-append start [] more = refl
state_after-append start (m ∷ ms) more = state_after-append m.after ms more
