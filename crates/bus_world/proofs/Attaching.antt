-- A bus that goes on where its disks stand begins at a first world, and told bytes fit its nodes
use Rattle.std.specs.Prelude.{◌≡◌, ℕ, ◌<◌, List, length, get_or}
use Rattle.std.proofs.Common.{sym, ap, ◌∙◌, subst, arith}
use Rattle.std.proofs.lemmas.List.{length-map, get_or-map}
use Rattle.std.proofs.lemmas.Option.{get_or_from_slice_get, slice_get_within}
use Rattle.cut_disk.specs.State.{DiskState}
use Rattle.cut_disk.specs.Images.{firm}
use Rattle.freshness_routes.specs.declared.routes.Direction.TheVariants.{Sends}
use Rattle.freshness_routes.specs.Config.{Config}
use Rattle.bus_machine.specs.Node.{Node, HasRoute, first_node}
use Rattle.bus_machine.specs.Sound.{Sound}
use Rattle.bus_machine.specs.Bus.{no_config, config_at, node_at}
use Rattle.bus_config.specs.declared.node_lines.NodeLine.{NodeLine}
use Rattle.bus_config.specs.Buses.{NamedBus, IsNamedBus, configs_of}
use Rattle.bus_config.specs.Laws.{NamedBusesAreBuses}
use Rattle.bus_laws.specs.Laws.{IsFirst, OneSender}
use Rattle.bus_world.specs.Turns.{NodeState, TellsFitting}
use Rattle.store_keeping.proofs.CallerLemmas.{told_before}
use Rattle.bus_world.specs.declared.start.Start.TheVariants.{Attach}
use Rattle.bus_world.specs.Worlds.{BusState, world_of, EachFits}
use Rattle.bus_world.specs.Starts.{Started, Opened, NodeGoesOn, StartsOver}
use Rattle.bus_world.specs.WorldTurns.{TellFirm, GoesOnFirst}
use Rattle.bus_world.proofs.AtNode.{node_there}
use Rattle.bus_world.proofs.DisksBack.{no_node}
use Rattle.bus_world.proofs.StartRowLaws.{no_disk, no_line}

module _ (bus : NamedBus) (most : ℕ) (before : List DiskState) (start : BusState) (started : Started Attach bus most before start) where
  x : NodeState
  x = no_node bus no_disk

  abbrev config_of : ℕ → Config
  config_of i = (get_or bus.nodes i no_line).config

  opened_at : (i : ℕ) → i < length bus.nodes → Opened Attach bus.kind bus.version (config_of i) (get_or before i no_disk) (get_or start.nodes i x)
  opened_at i inside = started.nodes.opened i no_line no_disk x inside

  there : (i : ℕ) → i < length bus.nodes → node_at (world_of start) i ≡ (get_or start.nodes i x).node
  there i inside = node_there start i x (omega (arith, inside, started.nodes.count))

  nodes_count : length (world_of start).nodes ≡ length bus.nodes
  nodes_count = length-map start.nodes (λ (s : NodeState). s.node) ∙ started.nodes.count

  -- ---- where it goes on

  goes_on : StartsOver bus before (world_of start)
  goes_on = record {
    no_event = started.no_event;
    nothing_sent = started.nothing_sent;
    count = nodes_count;
    nodes = λ i l d inside.
        let o = started.nodes.opened i l d x inside in
        subst (λ (n : Node). NodeGoesOn bus.kind bus.version (get_or bus.nodes i l).config (get_or before i d) n) (sym (there i inside))
        (record { just_powered = o.just_powered; kept = o.kept });
  }

  -- ---- a first world

  first_world : IsFirst (world_of start)
  first_world = record {
    no_event = started.no_event;
    nothing_sent = started.nothing_sent;
    sound = λ i within.
        let inside : i < length bus.nodes = omega (arith, within, nodes_count) in
        subst (λ (n : Node). Sound n) (sym (there i inside)) (opened_at i inside).sound;
    up = λ i within.
        let inside : i < length bus.nodes = omega (arith, within, nodes_count) in
        ap (λ (n : Node). n.up) (there i inside ∙ (opened_at i inside).just_powered);
    at_bounds = λ i within.
        let inside : i < length bus.nodes = omega (arith, within, nodes_count) in
        ap (λ (n : Node). n.counters) (there i inside ∙ (opened_at i inside).just_powered)
        ∙ sym (ap (λ (n : Node). n.kept.bounds) (there i inside));
  }

  config_there : (i : ℕ) → i < length bus.nodes → (node_at (world_of start) i).config ≡ config_at (configs_of bus) i
  config_there i inside =
      ap (λ (n : Node). n.config) (there i inside ∙ (opened_at i inside).just_powered)
      ∙ sym (get_or-map (λ (l : NodeLine). l.config) bus.nodes i no_line no_config inside)

  has_route : (i id : ℕ) → i < length bus.nodes → HasRoute (node_at (world_of start) i) id Sends → HasRoute (first_node (config_at (configs_of bus) i)) id Sends
  has_route i id inside has = subst (λ (c : Config). HasRoute (first_node c) id Sends) (config_there i inside) has

  one_sender : NamedBusesAreBuses → IsNamedBus bus → OneSender (world_of start)
  one_sender buses is = λ i j id first second one other.
      let configs : length (configs_of bus) ≡ length bus.nodes = length-map bus.nodes (λ (l : NodeLine). l.config) in
      (buses bus is).one_sender i j id (omega (arith, first, nodes_count, configs)) (omega (arith, second, nodes_count, configs))
      (has_route i id (omega (arith, first, nodes_count)) one) (has_route j id (omega (arith, second, nodes_count)) other)

  -- ---- over bytes of which none is loose

  fits_firm : TellFirm bus before → EachFits start
  fits_firm tell = λ i n is.
      let inside : i < length bus.nodes = omega (arith, slice_get_within start.nodes i n is, started.nodes.count) in
      let told = tell i no_disk inside in
      let o = opened_at i inside in
      let m : NodeState = get_or start.nodes i x in
      let now = told_before m.store.disk.told (get_or before i no_disk).told (sym o.runs.tells) (firm told.0) told.1 in
      subst TellsFitting (get_or_from_slice_get start.nodes i n x is) (record { now = now.0; told = now.1; fits = o.fits told.0 told.1 now.0 now.1 })

  pub goes_on_first : NamedBusesAreBuses → IsNamedBus bus → TellFirm bus before → GoesOnFirst bus before start
  goes_on_first buses is tell = record {
    fits = fits_firm tell;
    goes_on = goes_on;
    is_first = record { is_first = first_world; one_sender = one_sender buses is; count = nodes_count };
  }
