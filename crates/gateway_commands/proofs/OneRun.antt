-- What the turns of a gateway do to its disks; and those over a disk that tells its bytes are a run of its machine
use Rattle.std.specs.Prelude.{◌≡◌, ℕ, ◌+◌, ◌≤◌, Bool, Some, List, [], ◌∷◌, length, drop, get_or, map, Result}
use Rattle.std.proofs.Common.{sym, ap, ◌∙◌, subst, arith}
use Rattle.std.proofs.lemmas.List.{length-drop}
use Rattle.bus_port.specs.Sink.{SinkState}
use Rattle.cut_disk.specs.State.{DiskState, Told, Entry}
use Rattle.cut_disk.specs.Calls.{Later}
use Rattle.cut_disk.proofs.CallerLemmas.{later_of_runs, later_join, runs_none}
use Rattle.cell_store.specs.declared.kinds.Layout.{Layout}
use Rattle.cell_store.specs.Layout.{layout}
use Rattle.machine_runs.specs.Run.{Moment, Run}
use Rattle.machine_runs.proofs.CallerLemmas.{Run-seen_as}
use Rattle.run_driver.specs.declared.printing.Unwritten.{Unwritten}
use Rattle.store_keeping.specs.DiskTurns.{DiskTurn, OpenedDisk, TellsBytes, TracedSince, FailuresTold}
use Rattle.store_keeping.proofs.CallerLemmas.{traced_since, failures_told}
use Rattle.freshness_routes.specs.Config.{Config}
use Rattle.bus_machine.specs.declared.events.Event.{Event}
use Rattle.bus_machine.specs.Node.{Node, first_node, powered}
use Rattle.bus_machine.specs.Sound.{Sound}
use Rattle.bus_machine.specs.Bus.{First, SoundBus}
use Rattle.bus_machine.specs.Past.{mark_of}
use Rattle.bus_laws.specs.Laws.{BusesBeginFirst}
use Rattle.bus_config.specs.declared.node_lines.NodeLine.{NodeLine}
use Rattle.bus_config.specs.Buses.{NamedBus, IsNamedBus, configs_of}
use Rattle.bus_config.specs.Laws.{NamedBusesAreBuses}
use Rattle.bus_script.specs.EventForms.{node_line_at}
use Rattle.secoc_node.specs.Fits.{FitsNode}
use Rattle.secoc_node.specs.State.{NodeState, TellsFitting}
use Rattle.secoc_node.proofs.CallerLemmas.{told_before}
use Rattle.bus_world.specs.declared.start.Start.TheVariants.{Format}
use Rattle.bus_world.specs.Turns.{most_calls}
use Rattle.bus_world.specs.Starts.{start_calls, Opened}
use Rattle.secoc_gateway.specs.declared.gateway_lines.GatewayLine.{GatewayLine}
use Rattle.secoc_gateway.specs.Gateway.{departs_under, EventStep, GatewayStep, GatewayRun}
use Rattle.secoc_gateway.specs.MachineLaws.{RunsForwardWhatArrived, ArrivalsRise, DeparturesRise}
use Rattle.secoc_gateway.specs.State.{GatewayState, over}
use Rattle.secoc_gateway.specs.Turns.{calls_under, most_gateway_calls, tells_gateway_failure, GatewayTurn}
use Rattle.secoc_gateway.specs.Laws.{GatewayTurnsKeep}
use Rattle.secoc_gateway.proofs.CallerLemmas.{certain_by_mark}
use Rattle.gateway_commands.specs.Texts.{gateway_text}
use Rattle.gateway_commands.specs.Inputs.{gate_config, gate_node}
use Rattle.gateway_commands.specs.Runs.{RanGateway}
use Rattle.bus_world.proofs.CallerLemmas.{no_disk}
use Rattle.gateway_commands.specs.Headline.{TellsFirst, OneGatewayRun, GatewayDisksStay, gateway_seen}
use Rattle.gateway_commands.proofs.Seen.{first_commands, written_as}

-- the laws of the crates below, as their public functions ensure them
pub record Laws : Type 0 where
  pub buses : NamedBusesAreBuses
  pub begin_first : BusesBeginFirst
  pub forwards : RunsForwardWhatArrived
  pub arrivals : ArrivalsRise
  pub departures : DeparturesRise
  pub turns : GatewayTurnsKeep

-- ---- the first node

gate_sound : (nodes : List NodeLine) → length nodes ≡ 1 → SoundBus (First (map (λ node. node.config) nodes)) → Sound (first_node (node_line_at nodes 0).config)
gate_sound [] one sound = absurd (let no : ⊥ = omega (arith, one) in no)
gate_sound (n ∷ ns) one sound = sound 0 (omega arith)

first_sound : (laws : Laws) (bus : NamedBus) → IsNamedBus bus → length bus.nodes ≡ 1 → Sound (gate_node bus)
first_sound laws bus is one = gate_sound bus.nodes one (laws.begin_first (configs_of bus) (laws.buses bus is)).0.sound

-- ---- the disks, whether the first tells its bytes or not

abbrev GatewayMoment : Type 0
GatewayMoment = Moment Event GatewayLine GatewayState

abbrev node_in : GatewayState → Node
node_in g = g.node

abbrev disk_in : GatewayState → DiskState
disk_in g = g.store.disk

abbrev fails_with : Event → GatewayLine → Bool
fails_with e line = tells_gateway_failure line

opened_disk : (bus : NamedBus) (before : DiskState) (n : NodeState) → Opened Format bus.kind bus.version (gate_config bus) before n
    → OpenedDisk (start_calls Format bus.kind (gate_config bus)) before n.store.disk
opened_disk bus before n opened = record { runs = opened.runs; grows = opened.grows; faults = opened.faults }

count_back : (disk : DiskState) (before : List DiskState) → 1 ≤ length before → length (disk ∷ drop 1 before) ≡ length before
count_back disk before some = omega (arith, some, length-drop 1 before)

module _ (keep : GatewayTurnsKeep) (pairs : List (ℕ × ℕ)) where
  -- the most calls are those of the pairs and of the configuration, which stay
  same_calls : (s t : GatewayState) (e : Event) → s.pairs ≡ pairs → t.node.config ≡ s.node.config → most_gateway_calls s.pairs s.node e ≡ most_gateway_calls pairs t.node e
  same_calls s t e same config =
      ap (λ (ps : List (ℕ × ℕ)). most_gateway_calls ps s.node e) same
      ∙ ap (λ (c : Config). calls_under (departs_under pairs e) (most_calls (14 + length c.routes) (mark_of e))) (sym config)

  paired_turn : (s : GatewayState) (e : Event) (line : GatewayLine) (t : GatewayState) → s.pairs ≡ pairs → GatewayTurn s e line t
      → DiskTurn (mark_of e) (most_gateway_calls pairs (node_in t) e) (fails_with e line) (disk_in s) (disk_in t) × (t.pairs ≡ pairs)
  paired_turn s e line t same turn =
      let kept = keep s e line t turn in (
        subst (λ (n : ℕ). DiskTurn (mark_of e) n (tells_gateway_failure line) s.store.disk t.store.disk) (same_calls s t e same kept.config) kept.disk,
        kept.pairs ∙ same,
      )

  later_after : (s : GatewayState) (ms : List GatewayMoment) (t : GatewayState) → Run GatewayTurn s ms t → Later (disk_in s) (disk_in t)
  later_after s [] t run = subst (λ (x : GatewayState). Later (disk_in s) (disk_in x)) (sym run) (later_of_runs (runs_none (disk_in s)))
  later_after s (m ∷ ms) t run = later_join (later_of_runs (keep s m.command m.line m.after run.0).disk.runs) (later_after m.after ms t run.1)

module _ (keep : GatewayTurnsKeep) (bus : NamedBus) (pairs : List (ℕ × ℕ)) (before after : List DiskState) (events : List Event)
    (sink_before sink_after : SinkState) (result : Result (Unit {0}) Unwritten)
    (ran : RanGateway bus pairs before after events sink_before sink_after result) where
  disk_back : (d : DiskState) → get_or after 0 d ≡ ran.now.store.disk
  disk_back d = ap (λ (disks : List DiskState). get_or disks 0 d) ran.disks

  pub gateway_stays : GatewayDisksStay before after (gateway_seen ran.printed.moments)
  gateway_stays = record {
    later = λ d.
        subst (λ (disk : DiskState). Later (get_or before 0 d) disk) (sym (disk_back d))
        (later_join (later_of_runs (ran.opened d).runs) (later_after keep pairs ran.start ran.printed.moments ran.now ran.printed.run));
    failures = λ d.
        subst (λ (disk : DiskState). FailuresTold mark_of fails_with (gateway_seen ran.printed.moments) (get_or before 0 d) disk) (sym (disk_back d))
        (failures_told GatewayTurn node_in disk_in mark_of (most_gateway_calls pairs) fails_with (λ (g : GatewayState). g.pairs ≡ pairs) (paired_turn keep pairs)
        (start_calls Format bus.kind (gate_config bus)) (get_or before 0 d) ran.start ran.printed.moments ran.now (opened_disk bus (get_or before 0 d) (over ran.start) (ran.opened d))
        ran.pairs_are ran.printed.run);
    count = ap (λ (disks : List DiskState). length disks) ran.disks ∙ count_back ran.now.store.disk before (omega (arith, ran.room.enough, ran.takes.one));
    rest = ap (λ (disks : List DiskState). drop 1 disks) ran.disks;
  }

-- ---- turns over a disk that tells its bytes

-- what holds of the states that they reach
record Holds (l : Layout) (pairs : List (ℕ × ℕ)) (g : GatewayState) : Type 0 where
  pub fitting : TellsFitting (over g)
  pub pairs_are : g.pairs ≡ pairs
  pub layout_is : g.store.layout ≡ l

module _ (keep : GatewayTurnsKeep) (l : Layout) (pairs : List (ℕ × ℕ)) where
  turn_holds : (s : GatewayState) (e : Event) (line : GatewayLine) (t : GatewayState) → Holds l pairs s → GatewayTurn s e line t → Holds l pairs t
  turn_holds s e line t h turn =
      let kept = keep s e line t turn in
      record { fitting = kept.fitting h.fitting; pairs_are = kept.pairs ∙ h.pairs_are; layout_is = kept.layout ∙ h.layout_is }

  turn_steps : (s : GatewayState) (e : Event) (line : GatewayLine) (t : GatewayState) → Holds l pairs s → GatewayTurn s e line t
      → GatewayStep EventStep pairs s.node e line t.node × Holds l pairs t
  turn_steps s e line t h turn = (
    subst (λ (ps : List (ℕ × ℕ)). GatewayStep EventStep ps s.node e line t.node) h.pairs_are ((keep s e line t turn).step (certain_by_mark (mark_of e) (over s) h.fitting)),
    turn_holds s e line t h turn,
  )

  turn_disk : (s : GatewayState) (e : Event) (line : GatewayLine) (t : GatewayState) → Holds l pairs s → GatewayTurn s e line t
      → DiskTurn (mark_of e) (most_gateway_calls pairs (node_in t) e) (fails_with e line) (disk_in s) (disk_in t) × Holds l pairs t
  turn_disk s e line t h turn = ((paired_turn keep pairs s e line t h.pairs_are turn).0, turn_holds s e line t h turn)

  run_holds : (start : GatewayState) (ms : List GatewayMoment) (now : GatewayState) → Holds l pairs start → Run GatewayTurn start ms now → Holds l pairs now
  run_holds start [] now h run = subst (Holds l pairs) (sym run) h
  run_holds start (m ∷ ms) now h run = run_holds m.after ms now (turn_holds start m.command m.line m.after h run.0) run.1

  tells_bytes : (s : GatewayState) → Holds l pairs s → TellsBytes (FitsNode l s.node) s.store.disk
  tells_bytes s h = record {
    now = h.fitting.now;
    told = h.fitting.told;
    fit = subst (λ (x : Layout). FitsNode x s.node h.fitting.now) h.layout_is h.fitting.fits;
  }

-- ---- the start

opened_fits : (bus : NamedBus) (before : DiskState) (n : NodeState) (t : Told) → Opened Format bus.kind bus.version (gate_config bus) before n → before.told ≡ Some t → TellsFitting n
opened_fits bus before n t opened is =
    let now = told_before n.store.disk.told before.told (sym opened.runs.tells) t is in
    record { now = now.0; told = now.1; fits = opened.fits now.0 now.1 }

-- ---- all of one run

module _ (laws : Laws) (bus : NamedBus) (pairs : List (ℕ × ℕ)) (before after : List DiskState) (events : List Event)
    (sink_before sink_after : SinkState) (result : Result (Unit {0}) Unwritten)
    (ran : RanGateway bus pairs before after events sink_before sink_after result) (tells : TellsFirst before) where
  abbrev l : Layout
  l = layout bus.kind bus.version

  abbrev ms : List GatewayMoment
  ms = ran.printed.moments

  starts : Holds l pairs ran.start
  starts =
      let opened = ran.opened no_disk in
      let told = tells no_disk in
      record {
        fitting = opened_fits bus (get_or before 0 no_disk) (over ran.start) told.0 opened told.1;
        pairs_are = ran.pairs_are;
        layout_is = opened.layout_is;
      }

  starts_first : ran.start.node ≡ gate_node bus
  starts_first = let told = tells no_disk in
      let opened = ran.opened no_disk in opened.just_powered ∙ ap (powered (gate_config bus)) (opened.kept told.0 told.1).kept_as

  ends : Holds l pairs ran.now
  ends = run_holds laws.turns l pairs ran.start ms ran.now starts ran.printed.run

  is_run : GatewayRun pairs (gate_node bus) (gateway_seen ms) ran.now.node
  is_run =
      subst (λ (n : Node). GatewayRun pairs n (gateway_seen ms) ran.now.node) starts_first
      (Run-seen_as GatewayTurn (GatewayStep EventStep pairs) (λ (e : Event). e) node_in (Holds l pairs) (turn_steps laws.turns l pairs)
      ran.start ms ran.now starts ran.printed.run)

  sound : Sound (gate_node bus)
  sound = first_sound laws bus ran.is_bus ran.takes.one

  stay : GatewayDisksStay before after (gateway_seen ms)
  stay = gateway_stays laws.turns bus pairs before after events sink_before sink_after result ran

  back : (d : DiskState) → get_or after 0 d ≡ ran.now.store.disk
  back = disk_back laws.turns bus pairs before after events sink_before sink_after result ran

  fit : (d : DiskState) → (told : Told) × ((get_or after 0 d).told ≡ Some told) × FitsNode l ran.now.node told
  fit d =
      let now = tells_bytes laws.turns l pairs ran.now ends in
      (now.now, ap (λ (disk : DiskState). disk.told) (back d) ∙ now.told, now.fit)

  traced : (d : DiskState) (all : List Entry) → (get_or after 0 d).past ≡ Some all
      → TracedSince mark_of (most_gateway_calls pairs) (FitsNode l) (gate_node bus) (gateway_seen ms) (get_or before 0 d) all
  traced d all told =
      subst (λ (n : Node). TracedSince mark_of (most_gateway_calls pairs) (FitsNode l) n (gateway_seen ms) (get_or before 0 d) all) starts_first
      (traced_since GatewayTurn node_in disk_in mark_of (most_gateway_calls pairs)
      fails_with (Holds l pairs) (turn_disk laws.turns l pairs) (FitsNode l) (tells_bytes laws.turns l pairs)
      (start_calls Format bus.kind (gate_config bus)) (get_or before 0 d) ran.start ms ran.now (opened_disk bus (get_or before 0 d) (over ran.start) (ran.opened d))
      starts ran.printed.run all (ap (λ (disk : DiskState). disk.past) (sym (back d)) ∙ told))

  pub one_run : OneGatewayRun bus pairs before after events sink_before sink_after result
  one_run = record {
    moments = gateway_seen ms;
    last = ran.now.node;
    is_a_run = is_run;
    first = first_commands node_in ms events ran.printed.first;
    written = written_as node_in gateway_text ms events sink_before sink_after result ran.printed.holds;
    forwards_what_arrived = laws.forwards pairs (gate_node bus) (gateway_seen ms) ran.now.node sound is_run;
    arrivals_rise = laws.arrivals pairs (gate_node bus) (gateway_seen ms) ran.now.node sound is_run;
    departures_rise = laws.departures pairs (gate_node bus) (gateway_seen ms) ran.now.node sound is_run;
    disks = record {
      fit = fit;
      count = stay.count;
      rest = stay.rest;
      traced = traced;
    };
    failures = stay.failures;
  }
