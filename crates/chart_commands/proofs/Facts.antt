-- What each row of a chart's table says of the arguments and of the sources
use Rattle.std.specs.Prelude.{◌≡◌, ◌⊎◌, ℕ, Option, Some, List, Result, Ok, Err}
use Rattle.std.proofs.Common.{arith, refl, subst, inl, inr}
use Rattle.text_lines.specs.Readings.{Fault}
use Rattle.program_edge.specs.Rows.{Row}
use Rattle.program_edge.specs.Inputs.{Offers}
use Rattle.program_edge.proofs.CallerLemmas.{Offers-whole}
use Rattle.bus_config.specs.declared.fault.ConfigFault.{ConfigFault}
use Rattle.bus_config.specs.BusFile.{bus_of}
use Rattle.bus_machine.specs.declared.events.Event.{Event}
use Rattle.bus_machine.specs.declared.lines.Line.{Line}
use Rattle.bus_config.specs.Buses.{NamedBus}
use Rattle.bus_script.specs.EventForms.{events_of}
use Rattle.bus_world.specs.declared.start.Start.TheVariants.{Format}
use Rattle.bus_world.specs.Starts.{HasRoom}
use Rattle.bus_world.specs.StartAnswers.{DiskStates, ComesOfStart}
use Rattle.bus_programs.proofs.CallerLemmas.{same_bus, ReadsCalmly, calm_unread, calm_whole, RowTells, told_first, told_second, bus_or_fault, offered_no_fault, memory_status}
use Rattle.bus_programs.specs.Inputs.{BusInputs}
use Rattle.chart_commands.specs.Inputs.{AsksChart, SetsBus, SetsChart, OffersChart}
use Rattle.chart_commands.specs.Rows.{ChartInputRow, no_form, no_config, config_refused, no_script, script_refused, DoneChart, ChartRow, without_disks, not_started, all_done, done_without_memory}

-- ---- the sources

set_calm : (i : BusInputs) (bus : NamedBus) → SetsBus i bus → ReadsCalmly i.config
set_calm i bus set = calm_whole i.config set.of_bus.0 set.of_bus.1

pub calm_chart : (i : BusInputs) (bus : NamedBus) (events : List Event) → SetsChart i bus events → ReadsCalmly i.config × ReadsCalmly i.script
calm_chart i bus events set = (set_calm i bus set.set, calm_whole i.script set.text set.whole)

inputs_tell : (i : BusInputs) (row : Row) → ChartInputRow i row → RowTells row i.config i.script
inputs_tell i row comes = grind (arith, calm_unread, told_first, calm_whole, told_second, set_calm)

pub row_tells : (same : Type 0) (i : BusInputs) (d : DiskStates) (row : Row) → ChartRow same i d row → RowTells row i.config i.script
row_tells same i d row (without_disks _ comes as_before) = inputs_tell i row comes
row_tells same i d row (not_started _ (bus, events, set, start) nine) = inr (inr (calm_chart i bus events set))
row_tells same i d row (all_done _ (bus, events, set, done)) = inr (inr (calm_chart i bus events set))
row_tells same i d row (done_without_memory kept (bus, events, set, done)) = inr (inr (calm_chart i bus events set))

-- ---- words of another form

inputs_ask : (i : BusInputs) (row : Row) → ChartInputRow i row → ¬ AsksChart i.words → row.status ≡ 2
inputs_ask i row comes nothing = grind arith

pub row_asks : (same : Type 0) (i : BusInputs) (d : DiskStates) (row : Row) → ChartRow same i d row → ¬ AsksChart i.words → row.status ≡ 2
row_asks same i d row comes nothing = grind (arith, inputs_ask)

-- ---- a bus file that is offered, and has a fault

inputs_refuse : (i : BusInputs) (row : Row) (file : List ℕ) (fault : ConfigFault) → ChartInputRow i row → AsksChart i.words
    → Offers i.config file → bus_of file ≡ Err fault → (row.status ≡ 3) ⊎ (row.status ≡ 7)
inputs_refuse i row file fault comes asks offers err = grind (arith, memory_status, bus_or_fault)

pub row_refuses : (same : Type 0) (i : BusInputs) (d : DiskStates) (row : Row) (file : List ℕ) (fault : ConfigFault) → ChartRow same i d row
    → AsksChart i.words → Offers i.config file → bus_of file ≡ Err fault → (row.status ≡ 3) ⊎ (row.status ≡ 7)
row_refuses same i d row file fault comes asks offers err = grind (arith, inputs_refuse, bus_or_fault)

-- ---- a chart that is offered

-- what was read is what was offered
pub offered_events : (i : BusInputs) (bus over : NamedBus) (text input : List ℕ) (meaning : Result (List Event) Fault) → SetsBus i over
    → text ≡ input → events_of over.nodes text ≡ meaning → OffersChart i bus → events_of bus.nodes input ≡ meaning
offered_events i bus over text input meaning set same is offers =
    subst (λ (b : NamedBus). events_of b.nodes input ≡ meaning) (same_bus i.config over bus set.of_bus offers.of_bus)
    (subst (λ (t : List ℕ). events_of over.nodes t ≡ meaning) same is)

-- a run of the bus was done, for which there was room
pub record RanOver (d : DiskStates) (row : Row) (bus : NamedBus) : Type 0 where
  pub room : HasRoom bus d.before
  pub status : (row.status ≡ 0) ⊎ (row.status ≡ 7)

-- out of memory; or the script's first fault; or the bus doesn't start; or it ran
abbrev pub OfOffered : DiskStates → Row → NamedBus → List ℕ → Type 0
OfOffered d row bus input =
    (row.status ≡ 7)
    ⊎ (((fault : Fault) × (row.status ≡ 4) × (events_of bus.nodes input ≡ Err fault))
    ⊎ (((events : List Event) × (events_of bus.nodes input ≡ Ok events) × ComesOfStart Format bus d row)
    ⊎ ((events : List Event) × (events_of bus.nodes input ≡ Ok events) × RanOver d row bus)))

inputs_offered : (i : BusInputs) (d : DiskStates) (row : Row) (bus : NamedBus) (input : List ℕ) → ChartInputRow i row → OffersChart i bus
    → Offers i.script input → OfOffered d row bus input
inputs_offered i d row bus input (no_form none config script) offers lines = absurd (none offers.asks)
inputs_offered i d row bus input (no_config other (also, lacks, unread)) offers lines = inl (memory_status i.config offers.of_bus.0 other offers.of_bus.1 lacks)
inputs_offered i d row bus input (config_refused fault text asks is told unread) offers lines = absurd (offered_no_fault i.config bus fault offers.of_bus is)
inputs_offered i d row bus input (no_script other (over, set, lacks)) offers lines = inl (memory_status i.script input other lines lacks)
inputs_offered i d row bus input (script_refused fault f) offers lines =
    inr (inl (fault, refl, offered_events i bus f.bus f.text input (Err fault) f.set (Offers-whole i.script input f.text lines f.whole) f.is offers))

set_events : (i : BusInputs) (bus over : NamedBus) (input : List ℕ) (events : List Event) → SetsChart i over events → OffersChart i bus → Offers i.script input
    → events_of bus.nodes input ≡ Ok events
set_events i bus over input events set offers lines =
    offered_events i bus over set.text input (Ok events) set.set (Offers-whole i.script input set.text lines set.whole) set.has offers

done_room : (i : BusInputs) (d : DiskStates) (bus over : NamedBus) (events : List Event) (kept : Option (List Line)) → SetsBus i over → OffersChart i bus
    → DoneChart over events d kept → HasRoom bus d.before
done_room i d bus over events kept set offers done =
    subst (λ (b : NamedBus). HasRoom b d.before) (same_bus i.config over bus set.of_bus offers.of_bus) done.ran.started.room

pub row_offered : (same : Type 0) (i : BusInputs) (d : DiskStates) (row : Row) (bus : NamedBus) (input : List ℕ) → ChartRow same i d row
    → OffersChart i bus → Offers i.script input → OfOffered d row bus input
row_offered same i d row bus input (without_disks _ comes as_before) offers lines = inputs_offered i d row bus input comes offers lines
row_offered same i d row bus input (not_started _ (over, events, set, start) nine) offers lines =
    inr (inr (inl (
      events,
      set_events i bus over input events set offers lines,
      subst (λ (b : NamedBus). ComesOfStart Format b d row) (same_bus i.config over bus set.set.of_bus offers.of_bus) start,
    )))
row_offered same i d row bus input (all_done _ (over, events, set, (kept, done, text_is))) offers lines =
    inr (inr (inr (
      events,
      set_events i bus over input events set offers lines,
      record { room = done_room i d bus over events (Some kept) set.set offers done; status = inl refl },
    )))
row_offered same i d row bus input (done_without_memory kept (over, events, set, done)) offers lines =
    inr (inr (inr (
      events,
      set_events i bus over input events set offers lines,
      record { room = done_room i d bus over events kept set.set offers done; status = inr refl },
    )))
