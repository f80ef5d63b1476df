-- All lives of a bus go on, put together
use Rattle.std.specs.Prelude.{◌≡◌, ℕ, List, [], ◌∷◌, ◌++◌, length, map}
use Rattle.std.proofs.Common.{refl, ◌∙◌, ap, subst, arith}
use Rattle.machine_runs.specs.Run.{Run}
use Rattle.bus_machine.specs.Bus.{World, node_of, Instant, Moments, Step}
use Rattle.bus_machine.specs.Freshness.{AcceptedRises, Rising, SentRises, Single}
use Rattle.bus_laws.proofs.CallerLemmas.{AllPairs-Pairwise}
use Rattle.bus_config.specs.declared.node_lines.NodeLine.{NodeLine}
use Rattle.bus_config.specs.Buses.{NamedBus}
use Rattle.bus_world.specs.declared.start.Start.TheVariants.{Attach}
use Rattle.bus_world.specs.Worlds.{world_of}
use Rattle.bus_world.specs.WorldTurns.{seen, StartsSetUp, StartsGoOnFirst, TurnsAreWorldRuns}
use Rattle.bus_lives.specs.Lives.{Life, IsLife, Follows, IsFirstLife, LivesBehind, LivesOf, moments_in, Stage}
use Rattle.bus_lives.specs.Lives.{moment_passes, stages_in, world_behind, EachPowersUp, LivesGoOn, EachLife, LeavesNodes}
use Rattle.bus_lives.specs.Lives.{StartsLeaveNodes, NextBlamesNoBytes, OutlastsRefusals, AttachedRunsFollow}
use Rattle.bus_lives.specs.Lives.{WorldRunsAreLives}
use Rattle.bus_lives.proofs.Stages.{StagesFrom, stages_join, Restarts, Chained}
use Rattle.bus_lives.proofs.Rising.{moments_of, stages_rise, stages_are_single}
use Rattle.bus_lives.proofs.Keeping.{slots_outlast, updates_outlast}
use Rattle.bus_lives.proofs.Seams.{HasConfigs, over_configs, life_configs, leaves_nodes, outlasts_refusals}
use Rattle.bus_lives.proofs.Between.{starts_leave_nodes, next_blames_no_bytes, as_many, restarts}

-- ---- the stages of one life

life_stages : (start : World) (ms : Moments) (now : World) → Run Step start ms now → StagesFrom start (map moment_passes ms)
life_stages start [] now run = tt
life_stages start (m ∷ ms) now run = (run.0, life_stages m.after ms now run.1)

life_ends : (start : World) (ms : Moments) (now : World) → Run Step start ms now → now ≡ world_behind start (map moment_passes ms)
life_ends start [] now run = run
life_ends start (m ∷ ms) now run = life_ends m.after ms now run.1

-- a life, and the stages after it
with_life : (life : Life) (more : List Stage) → IsLife life → StagesFrom life.last more
    → StagesFrom life.first (map moment_passes life.moments ++ more)
with_life life more run behind =
    stages_join life.first (map moment_passes life.moments) more (life_stages life.first life.moments life.last run.is_a_run)
    (subst (λ (w : World). StagesFrom w more) (life_ends life.first life.moments life.last run.is_a_run) behind)

-- ---- the stages of all

behind_life : (life : Life) (lives : List Life) → HasConfigs life.bus life.first → IsLife life → LivesBehind life lives
    → StagesFrom life.last (stages_in lives)
behind_life life [] has run behind = tt
behind_life life (next ∷ lives) has run behind = (
  restarts life next has run behind.0,
  with_life next (stages_in lives) behind.1
      (behind_life next lives (over_configs next.bus next.before next.first behind.0.goes_on) behind.1 behind.2),
)

-- from the first world of the first life on
all_stages : (life : Life) (lives : List Life) → IsFirstLife life → IsLife life → LivesBehind life lives
    → StagesFrom life.first (map moment_passes life.moments ++ stages_in lives)
all_stages life lives first run behind =
    with_life life (stages_in lives) run (behind_life life lives (life_configs life first) run behind)

-- as many nodes as the bus has
same_count : (bus told : NamedBus) → told ≡ bus → length told.nodes ≡ length bus.nodes
same_count bus told same = ap (λ (b : NamedBus). length b.nodes) same

chained : (bus : NamedBus) (lives : List Life) → LivesOf bus lives → Chained (length bus.nodes) (stages_in lives)
chained bus [] are = tt
chained bus (life ∷ lives) are = record {
  count = are.2.begins.count ∙ same_count bus life.bus are.0;
  sound = are.2.begins.is_first.sound;
  stages = all_stages life lives are.1 are.2 are.3;
}

-- ---- their moments

of_passes : (ms : Moments) (more : List Stage) → moments_of (map moment_passes ms ++ more) ≡ ms ++ moments_of more
of_passes [] more = refl
of_passes (m ∷ ms) more = ap (λ (xs : Moments). m ∷ xs) (of_passes ms more)

same_moments : (lives : List Life) → moments_of (stages_in lives) ≡ moments_in lives
same_moments [] = refl
same_moments (life ∷ lives) = of_passes life.moments (stages_in lives) ∙ ap (λ (xs : Moments). life.moments ++ xs) (same_moments lives)

freshness : (bus : NamedBus) (lives : List Life) → LivesOf bus lives → Rising (moments_in lives) × Single (moments_in lives)
freshness bus [] are = (
  AllPairs-Pairwise (λ (m n : Instant). node_of m.command ≡ node_of n.command → AcceptedRises m.line n.line) [] tt,
  AllPairs-Pairwise (λ (m n : Instant). SentRises m.line n.line) [] tt,
)
freshness bus (life ∷ lives) are =
    let stages : List Stage = map moment_passes life.moments ++ stages_in lives in
    let run : StagesFrom life.first stages = all_stages life lives are.1 are.2 are.3 in
    let sound = are.2.begins.is_first.sound in (
      subst Rising (same_moments (life ∷ lives)) (stages_rise life.first stages sound run),
      subst Single (same_moments (life ∷ lives)) (stages_are_single life.first stages sound are.2.begins.one_sender run),
    )

-- ---- from one life to the next

-- each node powers up, and there are so many
abbrev Seam : ℕ → Life → Life → Type 0
Seam nodes life next = Restarts life.last next.first × (length next.first.nodes ≡ nodes)

seam : (nodes : ℕ) (life next : Life) → length life.bus.nodes ≡ nodes → HasConfigs life.bus life.first → IsLife life
    → Follows life next → Seam nodes life next
seam nodes life next count has run follows = (
  restarts life next has run follows,
  follows.goes_on.count ∙ as_many life next has run follows ∙ count,
)

-- as many nodes as the life before has
goes_count : (nodes : ℕ) (life next : Life) → length life.bus.nodes ≡ nodes → Follows life next
    → length next.bus.nodes ≡ nodes
goes_count nodes life next count follows =
    ap (λ (lines : List NodeLine). length lines) follows.as_bus.same_nodes ∙ count

seam_behind : (nodes : ℕ) (before : Life) (done : List Life) (life next : Life) (later : List Life)
    → length before.bus.nodes ≡ nodes → LivesBehind before (done ++ life ∷ next ∷ later) → Seam nodes life next
seam_behind nodes before [] life next later count behind =
    seam nodes life next (goes_count nodes before life count behind.0)
    (over_configs life.bus life.before life.first behind.0.goes_on) behind.1 behind.2.0
seam_behind nodes before (x ∷ done) life next later count behind =
    seam_behind nodes x done life next later (goes_count nodes before x count behind.0) behind.2

seam_in : (bus : NamedBus) (done : List Life) (life next : Life) (later : List Life)
    → LivesOf bus (done ++ life ∷ next ∷ later) → Seam (length bus.nodes) life next
seam_in bus [] life next later are =
    seam (length bus.nodes) life next (same_count bus life.bus are.0) (life_configs life are.1) are.2 are.3.0
seam_in bus (x ∷ done) life next later are =
    seam_behind (length bus.nodes) x done life next later (same_count bus x.bus are.0) are.3

each_powers_up : (bus : NamedBus) (lives : List Life) → LivesOf bus lives → EachPowersUp (length bus.nodes) lives
each_powers_up bus lives are = λ done life next later all i inside.
    let s = seam_in bus done life next later (subst (λ (xs : List Life). LivesOf bus xs) all are) in
    s.0.power_up i (omega (arith, inside, s.0.count, s.1))

pub lives_go_on : (bus : NamedBus) (lives : List Life) → LivesOf bus lives → LivesGoOn bus lives
lives_go_on bus lives are = record {
  freshness_rises = freshness bus lives are;
  no_slot_goes_back = slots_outlast (length bus.nodes) (stages_in lives) (chained bus lives are);
  no_update_is_lost = updates_outlast (length bus.nodes) (stages_in lives) (chained bus lives are);
  each_powers_up = each_powers_up bus lives are;
}

-- ---- what each life leaves

-- of each life: it is one, and its nodes have the configurations of its bus
record OneLife (life : Life) : Type 0 where
  pub configs : HasConfigs life.bus life.first
  pub run : IsLife life

one_behind : (before : Life) (done : List Life) (life : Life) (later : List Life)
    → LivesBehind before (done ++ life ∷ later) → OneLife life
one_behind before [] life later behind = record {
  configs = over_configs life.bus life.before life.first behind.0.goes_on;
  run = behind.1;
}
one_behind before (x ∷ done) life later behind = one_behind x done life later behind.2

one_in : (bus : NamedBus) (done : List Life) (life : Life) (later : List Life) → LivesOf bus (done ++ life ∷ later)
    → OneLife life
one_in bus [] life later are = record { configs = life_configs life are.1; run = are.2 }
one_in bus (x ∷ done) life later are = one_behind x done life later are.3

pub lives_can_go_on : EachLife LeavesNodes
lives_can_go_on = λ bus done life later are.
    let one = one_in bus done life later are in
    leaves_nodes life one.configs one.run

pub unfinished_starts_leave_nodes : EachLife StartsLeaveNodes
unfinished_starts_leave_nodes = λ bus done life later are.
    let one = one_in bus done life later are in
    starts_leave_nodes life one.configs one.run

pub next_starts_blame_no_bytes : EachLife NextBlamesNoBytes
next_starts_blame_no_bytes = λ bus done life later are.
    let one = one_in bus done life later are in
    next_blames_no_bytes life one.configs one.run

pub refused_starts_leave_lives : EachLife OutlastsRefusals
refused_starts_leave_lives = λ bus done life later are.
    let one = one_in bus done life later are in
    outlasts_refusals life one.configs one.run

-- ---- where lives come from

pub world_runs_are_lives : WorldRunsAreLives
world_runs_are_lives = λ bus before after first events moments last run. record {
  begins = run.begins;
  is_a_run = run.is_a_run;
  of_events = run.of_events;
  fit = λ i d inside.
      let there = run.disks.fit i d inside in
      record { now = there.now; told = there.told; fit = there.fit };
}

pub attached_follow : StartsSetUp → StartsGoOnFirst → TurnsAreWorldRuns → AttachedRunsFollow
attached_follow set_up go_on world_runs =
    λ bus life starts most before after events start moments now is run left as_bus firm started taken.
    let first = go_on bus most before start is started firm in
    let whole = world_runs bus before after events start moments now (set_up Attach bus most before start started)
    first.fits first.is_first taken in (
      record { starts = starts; disks = left; as_bus = as_bus; goes_on = first.goes_on },
      world_runs_are_lives bus before after (world_of start) events (seen moments) (world_of now) whole,
      whole,
    )
