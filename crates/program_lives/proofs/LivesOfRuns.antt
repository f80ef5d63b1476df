-- Runs of programs are lives, one after another
use Rattle.std.specs.Prelude.{◌≡◌, ℕ, ◌<◌, true, Option, Some, List, [], ◌∷◌, length, take, get_or}
use Rattle.std.proofs.Common.{refl, sym, ap, ◌∙◌, subst, arith, inr}
use Rattle.std.proofs.lemmas.List.{length-map, take_all}
use Rattle.std.proofs.lemmas.Option.{same_Some, none-some}
use Rattle.program_edge.specs.Endings.{Ending}
use Rattle.cell_store.specs.declared.kinds.Kind.{Kind}
use Rattle.cell_store.specs.declared.kinds.Version.{Version}
use Rattle.cell_store.specs.declared.kinds.Version.TheVariants.{One, Two}
use Rattle.cell_store.specs.Layout.{layout}
use Rattle.cell_store.specs.Store.{HasHeader}
use Rattle.machine_runs.specs.Run.{commands_in}
use Rattle.memory_update.specs.declared.messages.Request.{Request}
use Rattle.bus_machine.specs.declared.events.Event.{Event}
use Rattle.bus_machine.specs.Node.{Node, Kept, powered}
use Rattle.bus_machine.specs.Sound.{Sound}
use Rattle.bus_machine.specs.Bus.{World, Instant, Moments, node_at}
use Rattle.bus_world.specs.declared.start.Start.TheVariants.{Attach}
use Rattle.bus_world.specs.TakingUp.{cells_in, KeptOn}
use Rattle.bus_world.specs.Starts.{StartsOver, NodeGoesOn}
use Rattle.bus_world.specs.StartRows.{CanStart}
use Rattle.bus_world.proofs.CallerLemmas.{no_disk, no_line}
use Rattle.bus_world.specs.WorldRuns.{IsFirstOf}
use Rattle.bus_lives.specs.Lives.{DiskState, Told, firm, NodeLine, NamedBus}
use Rattle.bus_lives.specs.Lives.{Life, life_over, TellsNode, IsLife, NoNewer, NoneNewer, LivesBehind, LivesOf, WorldRunsAreLives}
use Rattle.bus_lives.specs.Lives.{AllLivesGoOn}
use Rattle.bus_lives.proofs.CallerLemmas.{Sound-powered, config_of_node, one_not_two, over_configs, starts_leave_nodes}
use Rattle.bus_commands.specs.SharedRuns.{HeadlineIsWorldRun}
use Rattle.any_cells.specs.declared.finding.CountingStore.{CountingStore}
use Rattle.any_cells.specs.Counting.{StoreThatCounts, counting_store, moved_up, not_moved, only_second, no_store}
use Rattle.key_commands.specs.Loads.{OnFirstDisk, LoadsInto}
use Rattle.program_lives.specs.ProgramRuns.{LoadsNode, DidRun, by_node, by_endpoint, by_load, ProgramRun, HasDone, IsLifeOf}
use Rattle.program_lives.specs.ProgramRuns.{CanComeFirst, EachRunIsALife, FollowsRun, RunsBehind, RunsOfBus, AreLivesOf, ProgramRunsGoOn, AllProgramRunsGoOn}
use Rattle.program_lives.proofs.LoadSteps.{alone, keeps}
use Rattle.program_lives.proofs.LoadedNode.{kept_on, load_done}

-- the laws of the crates below, as their public functions ensure them
pub record Below : Type 0 where
  pub headline : HeadlineIsWorldRun
  pub worlds : WorldRunsAreLives

-- a run as a life, from a world in which the bus goes on
pub record RunLife (bus : NamedBus) (before after : List DiskState) (did : DidRun bus before after) : Type 0 where
  pub first : World
  pub events : List Event
  pub moments : Moments
  pub last : World
  pub goes_on : StartsOver bus before first
  pub is_life : IsLife (life_over bus before after first events moments last)
  pub has_done : HasDone bus before after did (life_over bus before after first events moments last)

-- the moments' own commands are the first of them
own_events : (moments : Moments) → commands_in moments ≡ take (length moments) (commands_in moments)
own_events moments =
    sym (take_all (length moments) (commands_in moments)
    (omega (arith, length-map moments (λ (m : Instant). m.command))))

-- ---- a load

module _ (bus : NamedBus) (uid : List ℕ) (before after : List DiskState) (is : LoadsNode bus uid before)
    (requests : List Request) (e : Ending) (on : OnFirstDisk before after (LoadsInto uid requests e)) where
  one_node : length bus.nodes ≡ 1
  one_node = ap (λ (nodes : List NodeLine). length nodes) is.one

  -- what holds of the first place holds of each that the bus has
  each : (P : ℕ → Type 0) → P 0 → (i : ℕ) → i < length bus.nodes → P i
  each P holds i inside = let same : 0 ≡ i = omega (arith, inside, one_node) in subst P same holds

  config_at_first : (line : NodeLine) → (get_or bus.nodes 0 line).config ≡ is.node.config
  config_at_first line = ap (λ (nodes : List NodeLine). (get_or nodes 0 line).config) is.one

  -- no newer store than the one that counts, if that is of the bus
  counted_alone : (kind : Kind) (version : Version) (n : ℕ) (x : List ℕ) (which : Option CountingStore)
      → StoreThatCounts x which → which ≡ Some (counting_store kind version n) → NoNewer kind version n x
  counted_alone kind Two n x which counts same = tt
  counted_alone kind One n x _ (moved_up sort m low high) same =
      absurd (one_not_two (sym (ap (λ (f : CountingStore). f.version) (same_Some _ _ same))))
  counted_alone kind One n x _ (not_moved sort m low none) same = λ newer.
      let f = same_Some _ _ same in
      let kind_is : kind ≡ sort = sym (ap (λ (s : CountingStore). s.kind) f) in
      let number_is : n ≡ m = sym (ap (λ (s : CountingStore). s.cells) f) in
      none (
        low.0,
        subst (λ (k : Kind). HasHeader (layout k Two) m x) kind_is
            (subst (λ (i : ℕ). HasHeader (layout kind Two) i x) number_is newer),
      )
  counted_alone kind One n x _ (only_second sort m none high) same =
      absurd (one_not_two (sym (ap (λ (f : CountingStore). f.version) (same_Some _ _ same))))
  counted_alone kind One n x _ (no_store low high) same = absurd (none-some _ same)

  told_firm : (d : DiskState) (t : Told) → (get_or before 0 d).told ≡ Some t → t ≡ firm is.bytes
  told_firm d t told = same_Some t (firm is.bytes) (sym told ∙ is.tells d)

  old_is : on.old.told ≡ Some (firm is.bytes)
  old_is = sym (ap (λ (ds : List DiskState). (get_or ds 0 no_disk).told) on.before_is) ∙ is.tells no_disk

  found_own : on.holds.opens.found ≡ counting_store bus.kind bus.version (cells_in is.node.config)
  found_own = is.counts on.holds.opens.found (on.holds.opens.counts (firm is.bytes) old_is)

  -- so a start of this bus finds no newer one
  pub none_newer : NoneNewer bus before
  none_newer = λ i line d t inside told.
      each
      (λ (k : ℕ). (get_or before k d).told ≡ Some t
      → NoNewer bus.kind bus.version (cells_in (get_or bus.nodes k line).config) t.bytes)
      (λ here.
      subst (λ c. NoNewer bus.kind bus.version (cells_in c) t.bytes) (sym (config_at_first line))
      (subst (λ (u : Told). NoNewer bus.kind bus.version (cells_in is.node.config) u.bytes) (sym (told_firm d t here))
      (counted_alone bus.kind bus.version (cells_in is.node.config) is.bytes (Some on.holds.opens.found)
      (on.holds.opens.counts (firm is.bytes) old_is) (ap Some found_own))))
      i inside told

  module _ (can : CanStart Attach bus.kind bus.version is.node.config is.bytes) where
    abbrev mine : Kept
    mine = keeps on.holds.opened.slots can.0.bounds

    abbrev node : Node
    node = powered is.node.config mine

    abbrev first : World
    first = alone node 0

    on_mine : KeptOn Attach bus.kind bus.version is.node.config is.bytes mine
    on_mine = kept_on bus uid before after is requests e on can.0 can.1

    goes_at_first : (line : NodeLine) (d : DiskState)
        → NodeGoesOn bus.kind bus.version (get_or bus.nodes 0 line).config (get_or before 0 d) (node_at first 0)
    goes_at_first line d =
        subst (λ c. NodeGoesOn bus.kind bus.version c (get_or before 0 d) node) (sym (config_at_first line))
        (record {
          just_powered = refl;
          kept = λ t told.
              subst (λ (u : Told). KeptOn Attach bus.kind bus.version is.node.config u.bytes mine)
              (sym (told_firm d t told)) on_mine;
        })

    goes_on : StartsOver bus before first
    goes_on = record {
      no_event = refl;
      nothing_sent = refl;
      count = sym one_node;
      nodes = λ i line d inside.
          each
          (λ (k : ℕ). NodeGoesOn bus.kind bus.version (get_or bus.nodes k line).config (get_or before k d)
          (node_at first k)) (goes_at_first line d) i inside;
    }

    sound : Sound node
    sound =
        Sound-powered is.node.config mine (config_of_node bus is.node is.is_bus is.one) on_mine.is_kept.slots on_mine.is_kept.bounds
        (λ i inside. on_mine.is_kept.fit i 0 (omega (arith, inside, on_mine.is_kept.bounds)))

    -- what holds of the first node holds of each that the world has
    at_first : (P : ℕ → Type 0) → P 0 → (i : ℕ) → i < 1 → P i
    at_first P holds i inside = let same : 0 ≡ i = omega (arith, inside) in subst P same holds

    begins : IsFirstOf bus first
    begins = record {
      is_first = record {
        no_event = refl;
        nothing_sent = refl;
        sound = λ i inside. at_first (λ (k : ℕ). Sound (node_at first k)) sound i inside;
        up = λ i inside. at_first (λ (k : ℕ). (node_at first k).up ≡ true) refl i inside;
        at_bounds = λ i inside.
            at_first (λ (k : ℕ). (node_at first k).counters ≡ (node_at first k).kept.bounds) refl i inside;
      };
      one_sender = λ i j id here there sends other.
          let low : i < 1 = here in
          let also : j < 1 = there in
          omega (arith, low, also);
      count = sym one_node;
    }

    pub load_life : RunLife bus before after (by_load uid requests e is on)
    load_life =
        let done = load_done bus uid before after is requests e on can.0 can.1 in
        let ran = done.0 in
        record {
          first = first;
          events = commands_in ran.moments;
          moments = ran.moments;
          last = alone ran.node ran.count;
          goes_on = goes_on;
          is_life = record {
            begins = begins;
            is_a_run = ran.run;
            of_events = own_events ran.moments;
            fit = λ i d inside.
                each (λ (k : ℕ). TellsNode bus (node_at (alone ran.node ran.count) k) (get_or after k d))
                (subst (λ (ds : List DiskState). TellsNode bus ran.node (get_or ds 0 d)) (sym on.after_is) ran.tells)
                i inside;
          };
          has_done = (done.1, record { no_boot = ran.no_boot; bounds = ran.bounds });
        }

-- ---- each of the three

pub run_life : (laws : Below) (bus : NamedBus) (before after : List DiskState) (did : DidRun bus before after)
    → CanComeFirst bus before after did → RunLife bus before after did
run_life laws bus before after (by_node first events moments last goes_on run) can = record {
  first = first;
  events = events;
  moments = moments;
  last = last;
  goes_on = goes_on;
  is_life =
      laws.worlds bus before after first events moments last
      ((laws.headline first bus (record { before = before; after = after }) events moments last).1 run);
  has_done = (refl, refl, refl, refl);
}
run_life laws bus before after (by_endpoint rules image told lines run) can = record {
  first = run.first;
  events = commands_in run.moments;
  moments = run.moments;
  last = run.last;
  goes_on = run.goes_on;
  is_life = record {
    begins = run.begins;
    is_a_run = run.is_a_run;
    of_events = own_events run.moments;
    fit = λ i d inside.
        let there = run.disks.fit i d inside in
        record { now = there.now; told = there.told; fit = there.fit };
  };
  has_done = (refl, refl, refl);
}
run_life laws bus before after (by_load uid requests e is on) can =
    load_life bus uid before after is requests e on can

-- ---- one after another

-- the life of this run
abbrev life_of_run : (run : ProgramRun) → RunLife run.bus run.before run.after run.did → Life
life_of_run run is = life_over run.bus run.before run.after is.first is.events is.moments is.last

is_its_life : (run : ProgramRun) (is : RunLife run.bus run.before run.after run.did) → IsLifeOf run (life_of_run run is)
is_its_life run is = record { bus_is = refl; before_is = refl; after_is = refl; has_done = is.has_done }

pub each_run_is_a_life : Below → EachRunIsALife
each_run_is_a_life laws = λ run can.
    let is = run_life laws run.bus run.before run.after run.did can in
    (life_of_run run is, is_its_life run is, is.goes_on, is.is_life)

-- whatever a life and starts after it left, the next run can go on over it
abbrev NodesStart : NamedBus → List DiskState → Type 0
NodesStart bus before =
    (line : NodeLine) (d : DiskState)
    → (t : Told) × ((get_or before 0 d).told ≡ Some t)
    × CanStart Attach bus.kind bus.version (get_or bus.nodes 0 line).config t.bytes

can_go_on : (bus : NamedBus) (before after : List DiskState) (did : DidRun bus before after)
    → (NoneNewer bus before → 0 < length bus.nodes → NodesStart bus before) → CanComeFirst bus before after did
can_go_on bus before after (by_node first events moments last goes_on run) start = tt
can_go_on bus before after (by_endpoint rules image told lines run) start = tt
can_go_on bus before after (by_load uid requests e is on) start =
    let nodes = start (none_newer bus uid before after is requests e on)
    (omega (arith, one_node bus uid before after is requests e on)) no_line no_disk in
    subst (λ c. CanStart Attach bus.kind bus.version c is.bytes)
    (config_at_first bus uid before after is requests e on no_line)
    (subst (λ (t : Told). CanStart Attach bus.kind bus.version (get_or bus.nodes 0 no_line).config t.bytes)
    (told_firm bus uid before after is requests e on no_disk nodes.0 nodes.1) nodes.2)

next_can : (run next : ProgramRun) (is : RunLife run.bus run.before run.after run.did) → FollowsRun run next
    → CanComeFirst next.bus next.before next.after next.did
next_can run next is comes =
    can_go_on next.bus next.before next.after next.did
    (λ none inside line d.
    starts_leave_nodes (life_of_run run is) (over_configs run.bus run.before is.first is.goes_on) is.is_life comes.starts
    next.bus next.before comes.disks comes.as_bus none 0 line d inside)

-- the lives of runs behind one
record Behind (life : Life) (runs : List ProgramRun) : Type 0 where
  pub lives : List Life
  pub are : AreLivesOf runs lives
  pub behind : LivesBehind life lives

lives_behind : (laws : Below) (run : ProgramRun) (is : RunLife run.bus run.before run.after run.did)
    (runs : List ProgramRun) → RunsBehind run runs → Behind (life_of_run run is) runs
lives_behind laws run is [] behind = record { lives = []; are = tt; behind = tt }
lives_behind laws run is (next ∷ runs) behind =
    let comes = behind.0 in
    let its = run_life laws next.bus next.before next.after next.did (next_can run next is comes) in
    let more = lives_behind laws next its runs behind.1 in
    record {
      lives = life_of_run next its ∷ more.lives;
      are = (is_its_life next its, more.are);
      behind = (
        record { starts = comes.starts; disks = comes.disks; as_bus = comes.as_bus; goes_on = its.goes_on },
        its.is_life,
        more.behind,
      );
    }

runs_go_on : (laws : Below) → AllLivesGoOn → (bus : NamedBus) (runs : List ProgramRun) → RunsOfBus bus runs
    → ProgramRunsGoOn bus runs
runs_go_on laws all bus [] are = record { lives = []; are_lives = tt; of_bus = tt; go_on = all bus [] tt }
runs_go_on laws all bus (run ∷ runs) are =
    let is = run_life laws run.bus run.before run.after run.did are.1 in
    let more = lives_behind laws run is runs are.2 in
    let of_bus : LivesOf bus (life_of_run run is ∷ more.lives) = (are.0, inr is.goes_on, is.is_life, more.behind) in
    record {
      lives = life_of_run run is ∷ more.lives;
      are_lives = (is_its_life run is, more.are);
      of_bus = of_bus;
      go_on = all bus (life_of_run run is ∷ more.lives) of_bus;
    }

pub program_runs_go_on : Below → AllLivesGoOn → AllProgramRunsGoOn
program_runs_go_on laws all = runs_go_on laws all
