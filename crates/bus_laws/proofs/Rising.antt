-- Each freshness that is sent or accepted is above the counter of its route, and each later one above each earlier one
use Rattle.std.specs.Prelude.{◌≡◌, ℕ, ◌<◌, ◌≤◌, [], ◌∷◌, length, get_or, set}
use Rattle.std.proofs.Common.{refl, sym, ◌∙◌, ap, subst, arith, get_or-set_same}
use Rattle.freshness_routes.specs.declared.routes.Direction.{Direction}
use Rattle.freshness_routes.specs.declared.routes.Direction.TheVariants.{Sends, Receives}
use Rattle.machine_runs.specs.Run.{Run}
use Rattle.bus_laws.specs.Laws.{OneSender}
use Rattle.bus_machine.specs.declared.events.Event.{Event}
use Rattle.bus_machine.specs.declared.lines.Line.{Line}
use Rattle.bus_machine.specs.declared.lines.Line.TheVariants.{Sent, Accepted}
use Rattle.bus_machine.specs.Node.{Node, place_of, place_in, HasRoute, counter_at}
use Rattle.bus_machine.specs.Sound.{Sound}
use Rattle.bus_machine.specs.Steps.{Act, sends, receives, NodeStep}
use Rattle.bus_machine.specs.Bus.{World, node_of, Instant, Moments, Step, node_at, SoundBus}
use Rattle.bus_machine.specs.Freshness.{Tells, AcceptedRises, Rising, SentRises, Single, Covered, AllCovered}
use Rattle.bus_laws.proofs.Effects.{routed, send_routed}
use Rattle.bus_laws.proofs.Growth.{Grows}
use Rattle.bus_laws.proofs.BusSteps.{step_at, Sound-bus, Grows-bus, as_many, as_many_run, Grows-run, Sound-run}
use Rattle.bus_laws.proofs.Lists.{Each, Pairwise, All-Each, AllPairs-Pairwise, Pairwise-map}

-- the node has such a route, and its counter is below v
pub record Above (node : Node) (direction : Direction) (id v : ℕ) : Type 0 where
  pub inside : HasRoute node id direction
  pub below : counter_at node (place_of node id direction) < v

pub record Reaches (node after : Node) (direction : Direction) (id v : ℕ) : Type 0 where
  pub above : Above node direction id v
  pub reached : counter_at after (place_of node id direction) ≡ v

reaches_by : (node after : Node) (direction : Direction) (id v k : ℕ) → Sound node → k ≡ place_of node id direction → k < length node.config.routes → counter_at node k < v → after.counters ≡ set node.counters k v → Reaches node after direction id v
reaches_by node after direction id v k s e inside below at = record {
  above = record { inside = subst (λ k. k < length node.config.routes) e inside; below = subst (λ k. counter_at node k < v) e below };
  reached = subst (λ j. counter_at after j ≡ v) e (ap (λ xs. get_or xs k 0) at ∙ get_or-set_same node.counters k v 0 (subst (λ n. k < n) (sym s.counters) inside));
}

-- a told freshness is above the counter before, and is the counter after
pub tells_reaches : (node : Node) (act : Act) (line : Line) (after : Node) (direction : Direction) (id v : ℕ) → Sound node → NodeStep node act line after → Tells direction line id v → Reaches node after direction id v
tells_reaches node (sends d payload) (Sent told w pdu) after Sends id v s step tells =
    let k : ℕ = place_of node d Sends in
    let r = send_routed node d payload step.1.allowed in
    let e : d ≡ id = sym step.0 ∙ tells.0 in
    reaches_by node after Sends id v k s (ap (λ d. place_of node d Sends) e) r.0.inside
    (omega (arith, step.1.freshness_is, tells.1))
    (ap (λ n. n.counters) step.1.after_is ∙ ap (λ w. set node.counters k w) tells.1)
tells_reaches node (receives d pdu) (Accepted told w payload source) after Receives id v s step tells =
    let k : ℕ = place_of node d Receives in
    let r = routed node d pdu step.1.judged.allowed in
    let e : d ≡ id = sym step.0 ∙ tells.0 in
    reaches_by node after Receives id v k s (ap (λ d. place_of node d Receives) e) r.inside
    (omega (arith, step.1.judged.verdict_is.0.above, tells.1))
    (ap (λ n. n.counters) step.1.after_is ∙ ap (λ w. set node.counters k w) tells.1)
tells_reaches node act (Sent told w pdu) after Sends id v s step tells = absurd step
tells_reaches node act (Accepted told w payload source) after Receives id v s step tells = absurd step
tells_reaches node act line after Sends id v s step tells = absurd tells
tells_reaches node act line after Receives id v s step tells = absurd tells

-- what is above the counter after a step is above the counter before it
Above-back : (node after : Node) (direction : Direction) (id v : ℕ) → Grows node after → Above after direction id v → Above node direction id v
Above-back node after direction id v g a =
    let same : place_of after id direction ≡ place_of node id direction = ap (λ c. place_in c.routes id direction) g.config_is in
    let inside : place_of node id direction < length node.config.routes = subst (λ k. k < length node.config.routes) same (subst (λ c. place_of after id direction < length c.routes) g.config_is a.inside) in
    record { inside = inside; below = omega (arith, g.counters (place_of node id direction) inside, subst (λ k. counter_at after k < v) same a.below) }

abbrev pub AboveAt : World → ℕ → Direction → Instant → Type 0
AboveAt world i direction m = node_of m.command ≡ i → (id v : ℕ) → Tells direction m.line id v → Above (node_at world i) direction id v

above_back : (world after : World) (i : ℕ) (direction : Direction) → Grows (node_at world i) (node_at after i) → (ms : Moments) → Each (AboveAt after i direction) ms → Each (AboveAt world i direction) ms
above_back world after i direction g [] a = tt
above_back world after i direction g (m ∷ ms) a =
    (λ at id v tells. Above-back _ _ direction id v g (a.0 at id v tells), above_back world after i direction g ms a.1)

-- in a run each freshness to come is above the counter now
pub all_above : (world : World) (ms : Moments) (now : World) (i : ℕ) (direction : Direction) → SoundBus world → i < length world.nodes → Run Step world ms now → Each (AboveAt world i direction) ms
all_above world [] now i direction s inside run = tt
all_above world (m ∷ ms) now i direction s inside run =
    let step = step_at world m.command m.line m.after run.0 in
    let more = as_many world m.command m.line m.after run.0 in (
      λ at id v tells. subst (λ j. Above (node_at world j) direction id v) at
          (tells_reaches _ _ m.line _ direction id v (s (node_of m.command) step.inside) step.step tells).above,
      above_back world m.after i direction (Grows-bus world m.command m.line m.after s run.0 i inside) ms
          (all_above m.after ms now i direction (Sound-bus world m.command m.line m.after s run.0) (subst (λ n. i < n) (sym more) inside) run.1),
    )

-- of two moments of one node, the later tells the greater freshness
abbrev pub After : Direction → Instant → Instant → Type 0
After direction m n = node_of m.command ≡ node_of n.command → (id v w : ℕ) → Tells direction m.line id v → Tells direction n.line id w → v < w

each_after : (world : World) (direction : Direction) (m : Instant) (ms : Moments) → SoundBus world → Step world m.command m.line m.after
    → Each (AboveAt m.after (node_of m.command) direction) ms → Each (After direction m) ms
each_after world direction m [] s run a = tt
each_after world direction m (n ∷ ns) s run a = (
  λ same id v w first later.
      let i : ℕ = node_of m.command in
      let step = step_at world m.command m.line m.after run in
      let r = tells_reaches _ _ m.line _ direction id v (s i step.inside) step.step first in
      let b = a.0 (sym same) id w later in
      let g = Grows-bus world m.command m.line m.after s run i step.inside in
      let k : place_of (node_at m.after i) id direction ≡ place_of (node_at world i) id direction = ap (λ c. place_in c.routes id direction) g.config_is in
      omega (arith, r.reached, subst (λ k. counter_at (node_at m.after i) k < w) k b.below),
  each_after world direction m ns s run a.1,
)

pub all_after : (world : World) (ms : Moments) (now : World) (direction : Direction) → SoundBus world → Run Step world ms now → Pairwise (After direction) ms
all_after world [] now direction s run = tt
all_after world (m ∷ ms) now direction s run =
    let step = step_at world m.command m.line m.after run.0 in
    let s' = Sound-bus world m.command m.line m.after s run.0 in (
      each_after world direction m ms s run.0
          (all_above m.after ms now (node_of m.command) direction s' (subst (λ n. node_of m.command < n) (sym (as_many world m.command m.line m.after run.0)) step.inside) run.1),
      all_after m.after ms now direction s' run.1,
    )

-- ---- accepted freshness rises

rises : (l n : Line) → ((id v w : ℕ) → Tells Receives l id v → Tells Receives n id w → v < w) → AcceptedRises l n
rises (Accepted id v payload source) (Accepted id' w payload' source') h = λ e. h id' v w (e, refl) (refl, refl)
rises _ _ h = tt

pub Rising-run : (start : World) (ms : Moments) (now : World) → SoundBus start → Run Step start ms now → Rising ms
Rising-run start ms now s run =
    AllPairs-Pairwise _ ms
    (Pairwise-map (After Receives) (λ m n. node_of m.command ≡ node_of n.command → AcceptedRises m.line n.line)
    (λ m n after same. rises m.line n.line (after same)) ms (all_after start ms now Receives s run))

-- ---- no freshness is sent twice

abbrev pub SenderIn : World → Instant → Type 0
SenderIn world m = (id v : ℕ) → Tells Sends m.line id v → (node_of m.command < length world.nodes) × HasRoute (node_at world (node_of m.command)) id Sends

sender_back : (world : World) (event : Event) (line : Line) (after : World) → SoundBus world → Step world event line after → (ms : Moments) → Each (SenderIn after) ms → Each (SenderIn world) ms
sender_back world event line after s step [] a = tt
sender_back world event line after s step (n ∷ ns) a = (
  λ id v tells.
      let b = a.0 id v tells in
      let inside : node_of n.command < length world.nodes = subst (λ k. node_of n.command < k) (as_many world event line after step) b.0 in
      (inside, subst (λ c. place_in c.routes id Sends < length c.routes) (Grows-bus world event line after s step (node_of n.command) inside).config_is b.1),
  sender_back world event line after s step ns a.1,
)

senders : (world : World) (ms : Moments) (now : World) → SoundBus world → Run Step world ms now → Each (SenderIn world) ms
senders world [] now s run = tt
senders world (m ∷ ms) now s run =
    let step = step_at world m.command m.line m.after run.0 in (
      λ id v tells. (step.inside, (tells_reaches _ _ m.line _ Sends id v (s (node_of m.command) step.inside) step.step tells).above.inside),
      sender_back world m.command m.line m.after s run.0 ms (senders m.after ms now (Sound-bus world m.command m.line m.after s run.0) run.1),
    )

OneSender-step : (world : World) (event : Event) (line : Line) (after : World) → SoundBus world → Step world event line after → OneSender world → OneSender after
OneSender-step world event line after s step one i j id fits fits' r r' =
    let back : (i : ℕ) → i < length after.nodes → HasRoute (node_at after i) id Sends → (i < length world.nodes) × HasRoute (node_at world i) id Sends =
    λ i fits r. let inside : i < length world.nodes = subst (λ k. i < k) (as_many world event line after step) fits in
    (inside, subst (λ c. place_in c.routes id Sends < length c.routes) (Grows-bus world event line after s step i inside).config_is r) in
    let a = back i fits r in
    let b = back j fits' r' in
    one i j id a.0 b.0 a.1 b.1

sent_before : (l n : Line) → ((id v w : ℕ) → Tells Sends l id v → Tells Sends n id w → v < w) → SentRises l n
sent_before (Sent id v pdu) (Sent id' w pdu') h = λ e. h id' v w (e, refl) (refl, refl)
sent_before _ _ h = tt

single_each : (world : World) (m : Instant) (ms : Moments) → OneSender world → SenderIn world m → Each (SenderIn world) ms → Each (After Sends m) ms → Each (λ n. SentRises m.line n.line) ms
single_each world m [] one first senders after = tt
single_each world m (n ∷ ns) one first senders after = (
  sent_before m.line n.line (λ id v w tells tells'.
      let a = first id v tells in
      let b = senders.0 id w tells' in
      after.0 (one (node_of m.command) (node_of n.command) id a.0 b.0 a.1 b.1) id v w tells tells'),
  single_each world m ns one first senders.1 after.1,
)

single_pairs : (start : World) (ms : Moments) (now : World) → SoundBus start → OneSender start → Run Step start ms now → Pairwise (λ m n. SentRises m.line n.line) ms
single_pairs start [] now s one run = tt
single_pairs start (m ∷ ms) now s one run =
    let from = senders start (m ∷ ms) now s run in (
      single_each start m ms one from.0 from.1 (all_after start (m ∷ ms) now Sends s run).0,
      single_pairs m.after ms now (Sound-bus start m.command m.line m.after s run.0) (OneSender-step start m.command m.line m.after s run.0 one) run.1,
    )

pub Single-run : (start : World) (ms : Moments) (now : World) → SoundBus start → OneSender start → Run Step start ms now → Single ms
Single-run start ms now s one run = AllPairs-Pairwise _ ms (single_pairs start ms now s one run)

-- ---- the main invariant

covered_each : (start : World) (ms : Moments) (now : World) → SoundBus start → Run Step start ms now
    → Each (λ m. (direction : Direction) (id v : ℕ) → Tells direction m.line id v → Covered (node_at now (node_of m.command)) direction id v) ms
covered_each start [] now s run = tt
covered_each start (m ∷ ms) now s run =
    let step = step_at start m.command m.line m.after run.0 in
    let i : ℕ = node_of m.command in
    let s' = Sound-bus start m.command m.line m.after s run.0 in
    let inside : i < length m.after.nodes = subst (λ n. i < n) (sym (as_many start m.command m.line m.after run.0)) step.inside in
    let one = Grows-bus start m.command m.line m.after s run.0 i step.inside in
    let more = Grows-run m.after ms now i s' inside run.1 in (
      λ direction id v tells.
          let r = tells_reaches _ _ m.line _ direction id v (s i step.inside) step.step tells in
          let same : place_of (node_at m.after i) id direction ≡ place_of (node_at start i) id direction = ap (λ c. place_in c.routes id direction) one.config_is in
          let same' : place_of (node_at now i) id direction ≡ place_of (node_at m.after i) id direction = ap (λ c. place_in c.routes id direction) more.config_is in
          let has : HasRoute (node_at m.after i) id direction = subst (λ c. place_in c.routes id direction < length c.routes) (sym one.config_is) r.above.inside in
          let has' : HasRoute (node_at now i) id direction = subst (λ c. place_in c.routes id direction < length c.routes) (sym more.config_is) has in
          let at : counter_at (node_at m.after i) (place_of (node_at m.after i) id direction) ≡ v = subst (λ k. counter_at (node_at m.after i) k ≡ v) (sym same) r.reached in
          let counted : v ≤ counter_at (node_at now i) (place_of (node_at now i) id direction) =
          subst (λ k. v ≤ counter_at (node_at now i) k) (sym same') (omega (arith, at, more.counters (place_of (node_at m.after i) id direction) has)) in
          let fits : i < length now.nodes = subst (λ n. i < n) (sym (as_many_run m.after ms now run.1)) inside in
          let sound = Sound-run m.after ms now s' run.1 i fits in
          record { route = has'; kept = omega (arith, counted, (sound.in_step (place_of (node_at now i) id direction) has').below); counted = counted },
      covered_each m.after ms now s' run.1,
    )

pub AllCovered-run : (start : World) (ms : Moments) (now : World) → SoundBus start → Run Step start ms now → AllCovered ms now
AllCovered-run start ms now s run = All-Each _ ms (covered_each start ms now s run)
