-- The disks that are handed back after the turns of a bus
use Rattle.std.specs.Prelude.{◌≡◌, ℕ, ◌<◌, ◌≤◌, false, Some, List, [], ◌∷◌, ◌++◌, length, drop, get_or}
use Rattle.std.proofs.Common.{refl, sym, ap, ◌∙◌, subst, arith}
use Rattle.std.proofs.lemmas.List.{length-map, length-append, length-drop, get_or-map, get_or_append_left}
use Rattle.machine_runs.specs.Run.{Moment}
use Rattle.cut_disk.specs.State.{DiskState, Entry}
use Rattle.cut_disk.specs.Calls.{Later}
use Rattle.cut_disk.proofs.CallerLemmas.{later_of_runs, later_join}
use Rattle.cell_store.specs.declared.kinds.Layout.{Layout}
use Rattle.any_cells.specs.Either.{layout}
use Rattle.store_keeping.specs.DiskTurns.{TellsBytes, TracedSince, FailuresTold}
use Rattle.store_keeping.proofs.CallerLemmas.{failures_told, traced_since}
use Rattle.bus_machine.specs.declared.events.Event.{Event}
use Rattle.bus_machine.specs.declared.lines.Line.{Line}
use Rattle.bus_machine.specs.Node.{first_node}
use Rattle.bus_machine.specs.Bus.{no_config}
use Rattle.bus_config.specs.Buses.{NamedBus}
use Rattle.bus_world.specs.Turns.{NodeState}
use Rattle.bus_world.specs.Worlds.{BusState, world_of, BusTurn, EachFits, TurnsAreRuns}
use Rattle.bus_world.specs.Starts.{disks_of}
use Rattle.bus_world.specs.NodeDisks.{mark_at, most_at, fails_at, fits_at, DisksStay, DisksFollow}
use Rattle.bus_world.specs.WorldTurns.{seen, SetUp, TakesTurns}
use Rattle.bus_world.proofs.TurnLaws.{as_many_nodes}
use Rattle.bus_world.proofs.AtNode.{disk_at, inside_after, turn_of_disk, later_run, HoldsAt, holds_after, holds_run, tells_at}

-- a node, for a place without one
pub no_node : NamedBus → DiskState → NodeState
no_node bus d = record { node = first_node no_config; store = record { layout = layout bus.kind bus.version; cells = []; disk = d; broken = false } }

-- ---- the list of disks

length_back : (bus : NamedBus) (before : List DiskState) (nodes : List NodeState) → length nodes ≡ length bus.nodes → length bus.nodes ≤ length before
    → length (disks_of nodes ++ drop (length bus.nodes) before) ≡ length before
length_back bus before nodes count enough =
    omega (arith, length-append (disks_of nodes) (drop (length bus.nodes) before), length-map nodes (λ (s : NodeState). s.store.disk), length-drop (length bus.nodes) before, count, enough)

drop-length : (front rest : List DiskState) → drop (length front) (front ++ rest) ≡ rest
drop-length [] rest = refl
drop-length (x ∷ front) rest = drop-length front rest

drop_front : (k : ℕ) (front rest : List DiskState) → length front ≡ k → drop k (front ++ rest) ≡ rest
drop_front k front rest is = subst (λ (n : ℕ). drop n (front ++ rest) ≡ rest) is (drop-length front rest)

-- ---- after turns that were done

module _ (bus : NamedBus) (before after : List DiskState) (events : List Event) (start : BusState) (ms : List (Moment Event Line BusState)) (now : BusState)
    (set_up : SetUp bus before start) (taken : TakesTurns bus before after events start ms now) where
  nodes_now : length now.nodes ≡ length bus.nodes
  nodes_now = as_many_nodes start ms now taken.run ∙ set_up.count

  -- as many disks are handed back
  pub disks_count : length after ≡ length before
  disks_count = ap (λ (l : List DiskState). length l) taken.disks ∙ length_back bus before now.nodes nodes_now set_up.enough

  -- those past the number of nodes are as before
  pub disks_rest : drop (length bus.nodes) after ≡ drop (length bus.nodes) before
  disks_rest =
      ap (λ (l : List DiskState). drop (length bus.nodes) l) taken.disks
      ∙ drop_front (length bus.nodes) (disks_of now.nodes) (drop (length bus.nodes) before)
      (length-map now.nodes (λ (s : NodeState). s.store.disk) ∙ nodes_now)

  -- the disk in a node's place is the node's
  disk_back : (i : ℕ) (d : DiskState) → i < length bus.nodes → get_or after i d ≡ disk_at (no_node bus d) i now
  disk_back i d inside =
      ap (λ (l : List DiskState). get_or l i d) taken.disks
      ∙ get_or_append_left (disks_of now.nodes) (drop (length bus.nodes) before) d i
      (omega (arith, inside, nodes_now, length-map now.nodes (λ (s : NodeState). s.store.disk)))
      ∙ get_or-map (λ (s : NodeState). s.store.disk) now.nodes i (no_node bus d) d (omega (arith, inside, nodes_now))

  within_start : (i : ℕ) → i < length bus.nodes → i < length start.nodes
  within_start i inside = omega (arith, inside, set_up.count)

  -- its failures are told, and what it told of its past it still tells
  pub failures_at : (i : ℕ) (d : DiskState) → i < length bus.nodes → FailuresTold (mark_at i) (fails_at i) (seen ms) (get_or before i d) (get_or after i d)
  failures_at i d inside =
      let x : NodeState = no_node bus d in
      let opened = set_up.opened i d x inside in
      subst (λ (s : DiskState). FailuresTold (mark_at i) (fails_at i) (seen ms) (get_or before i d) s) (sym (disk_back i d inside))
      (failures_told BusTurn world_of (disk_at x i) (mark_at i) (most_at i) (fails_at i) (λ (s : BusState). i < length s.nodes)
      (λ s e l t within turn. (turn_of_disk x i s e l t within turn, inside_after i s e l t within turn))
      opened.0 (get_or before i d) start ms now opened.1 (within_start i inside) taken.run)

  pub later_at : (i : ℕ) (d : DiskState) → i < length bus.nodes → Later (get_or before i d) (get_or after i d)
  later_at i d inside =
      let x : NodeState = no_node bus d in
      subst (λ (s : DiskState). Later (get_or before i d) s) (sym (disk_back i d inside))
      (later_join (later_of_runs (set_up.opened i d x inside).1.runs) (later_run x i start ms now (within_start i inside) taken.run))

  pub disks_stay : DisksStay bus before after (seen ms)
  disks_stay = λ i d inside. record { later = later_at i d inside; failures = failures_at i d inside }

  -- ---- over disks that tell their bytes and fit

  module _ (turns : TurnsAreRuns) (fits : EachFits start) where
    abbrev stores : Layout
    stores = layout bus.kind bus.version

    holds_first : (i : ℕ) (d : DiskState) → i < length bus.nodes → HoldsAt stores (no_node bus d) i start
    holds_first i d inside = record {
      inside = within_start i inside;
      fits = fits;
      layout_is = set_up.layout_is i (no_node bus d) inside;
    }

    fit_at : (i : ℕ) (d : DiskState) → i < length bus.nodes → TellsBytes (fits_at stores i (world_of now)) (get_or after i d)
    fit_at i d inside =
        let x : NodeState = no_node bus d in
        subst (λ (s : DiskState). TellsBytes (fits_at stores i (world_of now)) s) (sym (disk_back i d inside))
        (tells_at stores x i now (holds_run turns stores x i start ms now (holds_first i d inside) taken.run))

    traced_at : (i : ℕ) (d : DiskState) (all : List Entry) → i < length bus.nodes → (get_or after i d).past ≡ Some all
        → TracedSince (mark_at i) (most_at i) (fits_at stores i) (world_of start) (seen ms) (get_or before i d) all
    traced_at i d all inside tells =
        let x : NodeState = no_node bus d in
        let opened = set_up.opened i d x inside in
        traced_since BusTurn world_of (disk_at x i) (mark_at i) (most_at i) (fails_at i) (HoldsAt stores x i)
        (λ s e l t holds turn. (turn_of_disk x i s e l t holds.inside turn, holds_after turns stores x i s e l t holds turn))
        (fits_at stores i) (tells_at stores x i)
        opened.0 (get_or before i d) start ms now opened.1 (holds_first i d inside) taken.run all
        (ap (λ (s : DiskState). s.past) (sym (disk_back i d inside)) ∙ tells)

    pub disks_follow : DisksFollow (world_of start) bus before after (seen ms) (world_of now)
    disks_follow = record {
      fit = fit_at;
      later = later_at;
      count = disks_count;
      rest = disks_rest;
      traced = traced_at;
    }
