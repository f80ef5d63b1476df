-- A bus that was started over formatted disks is set up; if they tell their bytes, it begins at the first world of the
-- bus
use Rattle.std.specs.Prelude.{◌≡◌, ℕ, ◌<◌, Some, List, length, map, get_or}
use Rattle.std.proofs.Common.{sym, ap, ◌∙◌, subst, arith}
use Rattle.std.proofs.lemmas.List.{length-map, get_or-map, ext_get_or}
use Rattle.std.proofs.lemmas.Option.{get_or_from_slice_get, slice_get_within}
use Rattle.cut_disk.specs.State.{DiskState, Told}
use Rattle.cell_store.specs.declared.kinds.Kind.{Kind}
use Rattle.cell_store.specs.declared.kinds.Version.{Version}
use Rattle.freshness_routes.specs.Config.{Config}
use Rattle.bus_machine.specs.Node.{Node, first_node, powered}
use Rattle.bus_machine.specs.Bus.{World, SentLine, First, no_config}
use Rattle.bus_config.specs.declared.node_lines.NodeLine.{NodeLine}
use Rattle.bus_config.specs.Buses.{NamedBus, IsNamedBus, configs_of}
use Rattle.bus_config.specs.Laws.{NamedBusesAreBuses}
use Rattle.bus_laws.specs.Laws.{BusesBeginFirst}
use Rattle.bus_world.specs.Turns.{NodeState, TellsFitting}
use Rattle.store_keeping.proofs.CallerLemmas.{told_before}
use Rattle.bus_world.specs.declared.start.Start.{Start}
use Rattle.bus_world.specs.declared.start.Start.TheVariants.{Format}
use Rattle.bus_world.specs.Worlds.{BusState, world_of, EachFits}
use Rattle.bus_world.specs.Starts.{Started, Opened, start_calls}
use Rattle.bus_world.proofs.StartRowLaws.{no_line, no_disk}
use Rattle.bus_world.specs.NodeDisks.{TellEach}
use Rattle.bus_world.specs.WorldRuns.{IsFirstOf}
use Rattle.bus_world.specs.WorldTurns.{SetUp, BeginsAtFirst}
use Rattle.bus_world.proofs.DisksBack.{no_node}

-- ---- what a start leaves

pub sets_up : (how : Start) (bus : NamedBus) (most : ℕ) (before : List DiskState) (start : BusState) → Started how bus most before start → SetUp bus before start
sets_up how bus most before start started = record {
  enough = started.room.enough;
  count = started.nodes.count;
  layout_is = λ i n inside. (started.nodes.opened i no_line n.store.disk n inside).layout_is;
  opened = λ i d n inside.
      let opened = started.nodes.opened i no_line d n inside in
      (start_calls how bus.kind (get_or bus.nodes i no_line).config, record { runs = opened.runs; grows = opened.grows; faults = opened.faults });
}

-- over told bytes that were formatted a node is the first one of its configuration
opened_first : (kind : Kind) (version : Version) (config : Config) (before : DiskState) (n : NodeState) (t : Told) → Opened Format kind version config before n → before.told ≡ Some t
    → n.node ≡ first_node config
opened_first kind version config before n t o told = o.just_powered ∙ ap (powered config) (o.kept t told).kept_as

-- ---- the nodes

module _ (bus : NamedBus) (most : ℕ) (before : List DiskState) (start : BusState) (d : DiskState) (started : Started Format bus most before start) (tell : TellEach bus before) where
  first_nodes : map (λ (s : NodeState). s.node) start.nodes ≡ map first_node (configs_of bus)
  first_nodes = ext_get_or (first_node no_config) (map (λ (s : NodeState). s.node) start.nodes) (map first_node (configs_of bus)) lengths each where
    lengths : length (map (λ (s : NodeState). s.node) start.nodes) ≡ length (map first_node (configs_of bus))
    lengths = length-map start.nodes (λ (s : NodeState). s.node) ∙ started.nodes.count
        ∙ sym (length-map (configs_of bus) first_node ∙ length-map bus.nodes (λ (x : NodeLine). x.config))

    each : (k : ℕ) → k < length (map (λ (s : NodeState). s.node) start.nodes)
        → get_or (map (λ (s : NodeState). s.node) start.nodes) k (first_node no_config) ≡ get_or (map first_node (configs_of bus)) k (first_node no_config)
    each k lt =
        let n : NodeState = no_node bus d in
        let inside : k < length bus.nodes = omega (arith, lt, length-map start.nodes (λ (s : NodeState). s.node), started.nodes.count) in
        let told = tell k d inside in
        get_or-map (λ (s : NodeState). s.node) start.nodes k n (first_node no_config) (omega (arith, inside, started.nodes.count))
        ∙ opened_first bus.kind bus.version (get_or bus.nodes k no_line).config (get_or before k d) (get_or start.nodes k n) told.0 (started.nodes.opened k no_line d n inside) told.1
        ∙ sym (get_or-map first_node (configs_of bus) k no_config (first_node no_config) (omega (arith, inside, length-map bus.nodes (λ (x : NodeLine). x.config)))
        ∙ ap first_node (get_or-map (λ (x : NodeLine). x.config) bus.nodes k no_line no_config inside))

  abbrev made_world : List Node → ℕ → List SentLine → World
  made_world nodes events sent = record { nodes = nodes; events = events; sent = sent }

  starts_first : world_of start ≡ First (configs_of bus)
  starts_first =
      ap (λ (nodes : List Node). made_world nodes start.events start.sent) first_nodes
      ∙ ap (λ (events : ℕ). made_world (map first_node (configs_of bus)) events start.sent) started.no_event
      ∙ ap (λ (sent : List SentLine). made_world (map first_node (configs_of bus)) 0 sent) started.nothing_sent

  opened_fits : (l : NodeLine) (old : DiskState) (n : NodeState) (t : Told) → Opened Format bus.kind bus.version l.config old n → old.told ≡ Some t → TellsFitting n
  opened_fits l old n t opened is =
      let now = told_before n.store.disk.told old.told (sym opened.runs.tells) t is in
      record { now = now.0; told = now.1; fits = opened.fits now.0 now.1 }

  starts_fitting : EachFits start
  starts_fitting = λ i n is.
      let inside : i < length bus.nodes = omega (arith, slice_get_within start.nodes i n is, started.nodes.count) in
      let told = tell i d inside in
      subst TellsFitting (get_or_from_slice_get start.nodes i n n is)
      (opened_fits (get_or bus.nodes i no_line) (get_or before i d) (get_or start.nodes i n) told.0 (started.nodes.opened i no_line d n inside) told.1)

-- ---- the first world of a bus

first_of_bus : NamedBusesAreBuses → BusesBeginFirst → (bus : NamedBus) → IsNamedBus bus → IsFirstOf bus (First (configs_of bus))
first_of_bus buses begin bus is =
    let first = begin (configs_of bus) (buses bus is) in
    record {
      is_first = first.0;
      one_sender = first.1;
      count = length-map (configs_of bus) first_node ∙ length-map bus.nodes (λ (x : NodeLine). x.config);
    }

pub begins_at_first : NamedBusesAreBuses → BusesBeginFirst → (bus : NamedBus) (most : ℕ) (before : List DiskState) (start : BusState) → IsNamedBus bus → Started Format bus most before start → TellEach bus before
    → BeginsAtFirst bus start
begins_at_first buses begin bus most before start is started tell = record {
  fits = starts_fitting bus most before start no_disk started tell;
  first = starts_first bus most before start no_disk started tell;
  is_first = first_of_bus buses begin bus is;
}
