-- Freshness rises over the stages of lives, as it does in a run
use Rattle.std.specs.Prelude.{◌≡◌, ℕ, ◌<◌, List, [], ◌∷◌, length}
use Rattle.std.proofs.Common.{refl, sym, ap, arith, subst}
use Rattle.freshness_routes.specs.declared.routes.Direction.{Direction}
use Rattle.freshness_routes.specs.declared.routes.Direction.TheVariants.{Sends, Receives}
use Rattle.freshness_routes.specs.Config.{Config}
use Rattle.bus_machine.specs.declared.lines.Line.{Line}
use Rattle.bus_machine.specs.declared.lines.Line.TheVariants.{Sent, Accepted}
use Rattle.bus_machine.specs.Node.{Node, place_of, place_in, HasRoute, counter_at}
use Rattle.bus_machine.specs.Bus.{World, node_of, Instant, Moments, Step, node_at, SoundBus}
use Rattle.bus_machine.specs.Freshness.{Tells, AcceptedRises, Rising, SentRises, Single, Covered}
use Rattle.bus_laws.specs.Laws.{OneSender}
use Rattle.bus_laws.proofs.CallerLemmas.{Grows, step_at, Each, Pairwise, Each-map, Pairwise-map, AllPairs-Pairwise, Above, AboveAt, After, SenderIn}
use Rattle.bus_laws.proofs.CallerLemmas.{all_above, AllCovered-run}
use Rattle.bus_lives.specs.Lives.{Stage, life_begins, moment_passes}
use Rattle.bus_lives.proofs.Stages.{StagesFrom, GrowsInto, stage_sound, stage_grows}

-- the moments of these stages
abbrev pub moments_of : List Stage → Moments
moments_of [] = []
moments_of (life_begins first ∷ stages) = moments_of stages
moments_of (moment_passes m ∷ stages) = m ∷ moments_of stages

-- ---- what is to come is above the counters now

-- what is above the counter of a later node is above that of the node
above_before : (node later : Node) (direction : Direction) (id v : ℕ) → Grows node later → Above later direction id v → Above node direction id v
above_before node later direction id v g a =
    let same : place_of later id direction ≡ place_of node id direction = ap (λ (c : Config). place_in c.routes id direction) g.config_is in
    let inside : HasRoute node id direction =
    subst (λ (k : ℕ). k < length node.config.routes) same (subst (λ (c : Config). place_of later id direction < length c.routes) g.config_is a.inside) in
    record {
      inside = inside;
      below = omega (arith, g.counters (place_of node id direction) inside, subst (λ (k : ℕ). counter_at later k < v) same a.below);
    }

each_above_before : (world later : World) (i : ℕ) (direction : Direction) → Grows (node_at world i) (node_at later i) → (ms : Moments)
    → Each (AboveAt later i direction) ms → Each (AboveAt world i direction) ms
each_above_before world later i direction g ms each =
    Each-map (AboveAt later i direction) (AboveAt world i direction)
    (λ m above at id v tells. above_before (node_at world i) (node_at later i) direction id v g (above at id v tells)) ms each

-- what a moment tells is above the counter before it
above_at : (world : World) (m : Instant) (i : ℕ) (direction : Direction) → SoundBus world → i < length world.nodes → Step world m.command m.line m.after → AboveAt world i direction m
above_at world m i direction s inside step = (all_above world (m ∷ []) m.after i direction s inside (step, refl)).0

above_now : (world : World) (xs : List Stage) (i : ℕ) (direction : Direction) → SoundBus world → i < length world.nodes → StagesFrom world xs → Each (AboveAt world i direction) (moments_of xs)
above_now world [] i direction s inside run = tt
above_now world (life_begins first ∷ xs) i direction s inside run =
    let g = stage_grows world (life_begins first) s run.0 in
    each_above_before world first i direction (g.nodes i inside) (moments_of xs)
    (above_now first xs i direction (stage_sound world (life_begins first) s run.0) (omega (arith, inside, g.count)) run.1)
above_now world (moment_passes m ∷ xs) i direction s inside run =
    let g = stage_grows world (moment_passes m) s run.0 in (
      above_at world m i direction s inside run.0,
      each_above_before world m.after i direction (g.nodes i inside) (moments_of xs)
          (above_now m.after xs i direction (stage_sound world (moment_passes m) s run.0) (omega (arith, inside, g.count)) run.1),
    )

-- ---- of two moments of one node the later tells the greater freshness

-- what a moment tells is at most the counter after it
covered_behind : (world : World) (m : Instant) (direction : Direction) (id v : ℕ) → SoundBus world → Step world m.command m.line m.after → Tells direction m.line id v
    → Covered (node_at m.after (node_of m.command)) direction id v
covered_behind world m direction id v s step tells = AllCovered-run world (m ∷ []) m.after s (step, refl) 0 m (omega arith) direction id v tells

each_later : (world : World) (m : Instant) (direction : Direction) (ms : Moments) → SoundBus world → Step world m.command m.line m.after
    → Each (AboveAt m.after (node_of m.command) direction) ms → Each (After direction m) ms
each_later world m direction ms s step each =
    Each-map (AboveAt m.after (node_of m.command) direction) (After direction m)
    (λ n above same id v w first later.
    let covered = covered_behind world m direction id v s step first in
    let higher = above (sym same) id w later in
    omega (arith, covered.counted, higher.below)) ms each

all_later : (world : World) (xs : List Stage) (direction : Direction) → SoundBus world → StagesFrom world xs → Pairwise (After direction) (moments_of xs)
all_later world [] direction s run = tt
all_later world (life_begins first ∷ xs) direction s run = all_later first xs direction (stage_sound world (life_begins first) s run.0) run.1
all_later world (moment_passes m ∷ xs) direction s run =
    let inside = (step_at world m.command m.line m.after run.0).inside in
    let more = stage_grows world (moment_passes m) s run.0 in
    let sound = stage_sound world (moment_passes m) s run.0 in (
      each_later world m direction (moments_of xs) s run.0 (above_now m.after xs (node_of m.command) direction sound (omega (arith, inside, more.count)) run.1),
      all_later m.after xs direction sound run.1,
    )

accepted_rises : (l n : Line) → ((id v w : ℕ) → Tells Receives l id v → Tells Receives n id w → v < w) → AcceptedRises l n
accepted_rises (Accepted id v payload source) (Accepted id' w payload' source') h = λ e. h id' v w (e, refl) (refl, refl)
accepted_rises _ _ h = tt

pub stages_rise : (world : World) (xs : List Stage) → SoundBus world → StagesFrom world xs → Rising (moments_of xs)
stages_rise world xs s run =
    AllPairs-Pairwise (λ (m n : Instant). node_of m.command ≡ node_of n.command → AcceptedRises m.line n.line) (moments_of xs)
    (Pairwise-map (After Receives) (λ (m n : Instant). node_of m.command ≡ node_of n.command → AcceptedRises m.line n.line)
    (λ m n later same. accepted_rises m.line n.line (later same)) (moments_of xs) (all_later world xs Receives s run))

-- ---- no freshness is sent twice

sender_before : (world later : World) → GrowsInto world later → (ms : Moments) → Each (SenderIn later) ms → Each (SenderIn world) ms
sender_before world later g ms each =
    Each-map (SenderIn later) (SenderIn world)
    (λ m from id v tells.
    let there = from id v tells in
    let inside : node_of m.command < length world.nodes = omega (arith, there.0, g.count) in
    (inside, subst (λ (c : Config). place_in c.routes id Sends < length c.routes) (g.nodes (node_of m.command) inside).config_is there.1)) ms each

sender_at : (world : World) (m : Instant) → SoundBus world → Step world m.command m.line m.after → SenderIn world m
sender_at world m s step = λ id v tells.
    let inside = (step_at world m.command m.line m.after step).inside in
    (inside, (above_at world m (node_of m.command) Sends s inside step refl id v tells).inside)

each_sender : (world : World) (xs : List Stage) → SoundBus world → StagesFrom world xs → Each (SenderIn world) (moments_of xs)
each_sender world [] s run = tt
each_sender world (life_begins first ∷ xs) s run =
    sender_before world first (stage_grows world (life_begins first) s run.0) (moments_of xs) (each_sender first xs (stage_sound world (life_begins first) s run.0) run.1)
each_sender world (moment_passes m ∷ xs) s run = (
  sender_at world m s run.0,
  sender_before world m.after (stage_grows world (moment_passes m) s run.0) (moments_of xs) (each_sender m.after xs (stage_sound world (moment_passes m) s run.0) run.1),
)

one_sender_later : (world later : World) → GrowsInto world later → OneSender world → OneSender later
one_sender_later world later g one i j id first second here there =
    let inside : i < length world.nodes = omega (arith, first, g.count) in
    let within : j < length world.nodes = omega (arith, second, g.count) in
    one i j id inside within
    (subst (λ (c : Config). place_in c.routes id Sends < length c.routes) (g.nodes i inside).config_is here)
    (subst (λ (c : Config). place_in c.routes id Sends < length c.routes) (g.nodes j within).config_is there)

sent_rises : (l n : Line) → ((id v w : ℕ) → Tells Sends l id v → Tells Sends n id w → v < w) → SentRises l n
sent_rises (Sent id v pdu) (Sent id' w pdu') h = λ e. h id' v w (e, refl) (refl, refl)
sent_rises _ _ h = tt

each_sent_rises : (world : World) (m : Instant) (ms : Moments) → OneSender world → SenderIn world m → Each (SenderIn world) ms → Each (After Sends m) ms
    → Each (λ (n : Instant). SentRises m.line n.line) ms
each_sent_rises world m [] one first senders later = tt
each_sent_rises world m (n ∷ ns) one first senders later = (
  sent_rises m.line n.line (λ id v w tells more.
      let here = first id v tells in
      let there = senders.0 id w more in
      later.0 (one (node_of m.command) (node_of n.command) id here.0 there.0 here.1 there.1) id v w tells more),
  each_sent_rises world m ns one first senders.1 later.1,
)

all_sent_rises : (world : World) (xs : List Stage) → SoundBus world → OneSender world → StagesFrom world xs
    → Pairwise (λ (m n : Instant). SentRises m.line n.line) (moments_of xs)
all_sent_rises world [] s one run = tt
all_sent_rises world (life_begins first ∷ xs) s one run =
    all_sent_rises first xs (stage_sound world (life_begins first) s run.0) (one_sender_later world first (stage_grows world (life_begins first) s run.0) one) run.1
all_sent_rises world (moment_passes m ∷ xs) s one run =
    let g = stage_grows world (moment_passes m) s run.0 in
    let sound = stage_sound world (moment_passes m) s run.0 in (
      each_sent_rises world m (moments_of xs) one (sender_at world m s run.0) (sender_before world m.after g (moments_of xs) (each_sender m.after xs sound run.1))
          (all_later world (moment_passes m ∷ xs) Sends s run).0,
      all_sent_rises m.after xs sound (one_sender_later world m.after g one) run.1,
    )

pub stages_are_single : (world : World) (xs : List Stage) → SoundBus world → OneSender world → StagesFrom world xs → Single (moments_of xs)
stages_are_single world xs s one run =
    AllPairs-Pairwise (λ (m n : Instant). SentRises m.line n.line) (moments_of xs) (all_sent_rises world xs s one run)
