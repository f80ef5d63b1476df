-- How a chart ends gives all that it promises
use Rattle.std.specs.Prelude.{◌≡◌, ◌≢◌, ◌⊎◌, ℕ, List, [], Option, Some, Result, Ok, Err, codes}
use Rattle.std.proofs.Common.{refl, ◌∙◌, subst, arith, inl, inr}
use Rattle.program_edge.specs.Told.{EndingTold}
use Rattle.program_edge.specs.Input.{input_fault_status}
use Rattle.program_edge.specs.declared.input.InputFault.{InputFault}
use Rattle.program_edge.specs.declared.input.InputFault.TheVariants as input
use Rattle.text_lines.specs.Readings.{Fault}
use Rattle.text_lines.specs.Texts.{fault_text_of}
use Rattle.program_edge.specs.Rows.{Row, memory_row}
use Rattle.program_edge.specs.Inputs.{IsUnread}
use Rattle.program_edge.specs.Endings.{Ending, EndsInRow, PrintsWhole}
use Rattle.program_edge.proofs.CallerLemmas.{EndsInRow-at, EndsInRow-only, EndsInRow-may, EndsInRow-front, EndsInRow-rose, EndsInRow-done}
use Rattle.bus_config.specs.declared.fault.ConfigFault.{ConfigFault}
use Rattle.bus_config.specs.FaultTexts.{config_fault_text}
use Rattle.bus_machine.specs.declared.events.Event.{Event}
use Rattle.bus_machine.specs.declared.lines.Line.{Line}
use Rattle.bus_machine.specs.declared.lines.Line.{Line}
use Rattle.bus_config.specs.Buses.{NamedBus}
use Rattle.bus_script.specs.EventForms.{events_of}
use Rattle.bus_world.specs.declared.start.Start.TheVariants.{Format}
use Rattle.bus_world.specs.declared.start.StartFault.{StartFault}
use Rattle.bus_world.specs.Starts.{HasRoom, FindsRoom}
use Rattle.bus_world.specs.StartRows.{start_row, StoreCause, LeavesEach}
use Rattle.bus_world.specs.StartAnswers.{DiskStates, ComesOfStart, BusHasDisks, CountsDiskFault, failed_row}
use Rattle.bus_world.specs.StartAnswers as answer
use Rattle.bus_world.proofs.CallerLemmas.{Comes-leaves, start_status, start_memory, start_without_room, start_complete, none_counted, failure_told}
use Rattle.bus_programs.specs.BusFiles.{IsConfigFault}
use Rattle.bus_programs.proofs.CallerLemmas.{told_fault, told_too_much}
use Rattle.chart_commands.specs.ChartTexts.{chart_text}
use Rattle.bus_programs.specs.Inputs.{BusInputs}
use Rattle.chart_commands.specs.Inputs.{AsksChart, chart_usage, NoChartConfig, NoChartScript, HasBadEvent, OverChart}
use Rattle.chart_commands.specs.Rows.{ChartInputRow, config_refused, DoneChart, ChartRow, without_disks, not_started, all_done, done_without_memory, EndsChart}
use Rattle.chart_commands.specs.Promises.{DrawsChart, LeavesChartDisks, as_before, by_unfinished_start, by_chart, RunsChart}
use Rattle.chart_commands.proofs.Facts.{row_tells, row_asks, row_refuses, OfOffered, row_offered}

Ok_not_Err : (r : Result (List Event) Fault) (events : List Event) (fault : Fault) → r ≡ Ok events → r ≡ Err fault → ⊥
Ok_not_Err r events fault ok err = cc

module _ (same : Type 0) (i : BusInputs) (d : DiskStates) (e : Ending) where
  abbrev Comes : Row → Type 0
  Comes = ChartRow same i d

  -- ---- which row a status is that of

  fault_is : (fault : InputFault) → (input_fault_status fault ≡ 5) ⊎ ((input_fault_status fault ≡ 8) ⊎ (input_fault_status fault ≡ 7))
  fault_is fault = grind arith

  -- that of a row for which no disk is used
  inputs_low : (row : Row) → ChartInputRow i row → (row.status ≡ 2) ⊎ ((row.status ≡ 3) ⊎ ((row.status ≡ 4) ⊎ ((row.status ≡ 5) ⊎ ((row.status ≡ 8) ⊎ (row.status ≡ 7)))))
  inputs_low row comes = grind (arith, fault_is)

  draws : (text : List ℕ) → OverChart i (λ bus events. (lines : List Line) × DoneChart bus events d (Some lines) × (text ≡ chart_text bus events lines))
      → PrintsWhole e text → OverChart i (λ bus events. DrawsChart bus events d e)
  draws text (bus, events, set, (lines, done, text_is)) well =
      (bus, events, set, record { lines = lines; done = done; drawn = subst (PrintsWhole e) text_is well })

  row_0 : (row : Row) → Comes row → row.status ≡ 0 → PrintsWhole e row.text → OverChart i (λ bus events. DrawsChart bus events d e)
  row_0 row (without_disks _ comes unused) is well = absurd (let no : ⊥ = omega (arith, inputs_low row comes, is) in no)
  row_0 row (not_started _ (bus, events, set, start) nine) is well = absurd (let no : ⊥ = omega (arith, start_status Format bus d row start, is) in no)
  row_0 row (all_done text over) is well = draws text over well
  row_0 row (done_without_memory kept over) is well = absurd (let no : ⊥ = omega (arith, is) in no)

  row_2 : (row : Row) → Comes row → row.status ≡ 2 → PrintsWhole e row.text → (¬ AsksChart i.words) × IsUnread i.config × IsUnread i.script × PrintsWhole e chart_usage
  row_2 row comes is well = grind (arith, fault_is, start_status)

  abbrev ConfigTold : Type 0
  ConfigTold = AsksChart i.words × IsUnread i.script
      × ((fault : ConfigFault) × (text : List ℕ) × IsConfigFault i.config fault × (config_fault_text fault ≡ Some text) × PrintsWhole e text)

  row_3 : (row : Row) → Comes row → row.status ≡ 3 → PrintsWhole e row.text → ConfigTold
  row_3 row (without_disks _ (config_refused fault text asks has told unread) unused) is well = (asks, unread, (fault, text, has, told, well))
  row_3 row (not_started _ (bus, events, set, start) nine) is well = absurd (let no : ⊥ = omega (arith, start_status Format bus d row start, is) in no)
  row_3 row comes is well = absurd (grind (arith, fault_is))

  row_4 : (row : Row) → Comes row → row.status ≡ 4 → PrintsWhole e row.text → (fault : Fault) × HasBadEvent i fault × PrintsWhole e (fault_text_of fault)
  row_4 row comes is well = grind (arith, fault_is, start_status)

  abbrev NoInput : InputFault → Type 0
  NoInput fault = NoChartConfig i fault ⊎ NoChartScript i fault

  row_5 : (row : Row) → Comes row → row.status ≡ 5 → PrintsWhole e row.text → NoInput input.ReadFault × PrintsWhole e (codes "read fault\n")
  row_5 row comes is well = grind (arith, start_status)

  row_8 : (row : Row) → Comes row → row.status ≡ 8 → PrintsWhole e row.text → NoInput input.TooLong × PrintsWhole e (codes "input too long\n")
  row_8 row comes is well = grind (arith, start_status)

  -- ---- a start that is refused

  abbrev DisksTold : NamedBus → Type 0
  DisksTold bus = (d.after ≡ d.before) × ((fault : StartFault) × FindsRoom bus d.before fault × PrintsWhole e (start_row fault).text)

  start_9 : (bus : NamedBus) (row : Row) → ComesOfStart Format bus d row → row.status ≡ 9 → PrintsWhole e row.text → DisksTold bus
  start_9 bus row comes is well = grind arith

  row_9 : (row : Row) → Comes row → row.status ≡ 9 → PrintsWhole e row.text → OverChart i (λ bus events. DisksTold bus)
  row_9 row comes is well = grind (arith, inputs_low, start_9)

  abbrev StoreTold : NamedBus → Type 0
  StoreTold bus = LeavesEach Format bus d.before d.after × ((fault : StartFault) × StoreCause Format bus d.before d.after fault × PrintsWhole e (start_row fault).text)

  start_10 : (bus : NamedBus) (row : Row) → ComesOfStart Format bus d row → row.status ≡ 10 → PrintsWhole e row.text → StoreTold bus
  start_10 bus row (answer.store_refused fault room cause left) is well = (left, (fault, cause, well))
  start_10 bus row comes is well = absurd (omega arith)

  row_10 : (row : Row) → Comes row → row.status ≡ 10 → PrintsWhole e row.text → OverChart i (λ bus events. StoreTold bus)
  row_10 row comes is well = grind (arith, inputs_low, start_10)

  row_not_6 : (row : Row) → Comes row → row.status ≢ 6
  row_not_6 row comes = grind (arith, inputs_low, start_status)

  -- ---- 7

  inputs_memory : (row : Row) → ChartInputRow i row → row.status ≡ 7 → row ≡ memory_row
  inputs_memory row comes is = grind arith

  is_memory : (row : Row) → Comes row → row.status ≡ 7 → row ≡ memory_row
  is_memory row comes is = grind (arith, inputs_memory, start_memory)

  row_7 : (row : Row) → Comes row → row.status ≡ 7 → PrintsWhole e row.text → ChartRow same i d memory_row × PrintsWhole e []
  row_7 row comes is well =
      let memory : row ≡ memory_row = is_memory row comes is in
      (subst (ChartRow same i d) memory comes, subst (λ (r : Row). PrintsWhole e r.text) memory well)

  -- ---- what makes a row come

  refused_of : (row : Row) (bus : NamedBus) (text : List ℕ) (fault : Fault) → events_of bus.nodes text ≡ Err fault → OfOffered d row bus text → (row.status ≡ 4) ⊎ (row.status ≡ 7)
  refused_of row bus text fault is of = grind (arith, Ok_not_Err)

  without_room_of : (row : Row) (bus : NamedBus) (text : List ℕ) (events : List Event) → events_of bus.nodes text ≡ Ok events → ¬ HasRoom bus d.before → OfOffered d row bus text
      → (row.status ≡ 9) ⊎ (row.status ≡ 7)
  without_room_of row bus text events is lacks of = grind (arith, Ok_not_Err, start_without_room)

  complete_of : (row : Row) (bus : NamedBus) (text : List ℕ) (events : List Event) → events_of bus.nodes text ≡ Ok events → BusHasDisks Format bus d
      → OfOffered d row bus text → (row.status ≡ 0) ⊎ (row.status ≡ 7)
  complete_of row bus text events is able of = grind (arith, Ok_not_Err, start_complete)

  -- ---- the disks

  row_low : (row : Row) → Comes row
      → (row.status ≡ 2) ⊎ (row.status ≡ 3) ⊎ (row.status ≡ 4) ⊎ (row.status ≡ 5) ⊎ (row.status ≡ 8) ⊎ (row.status ≡ 9) → same
  row_low row comes low = grind (arith, start_status)

  unused_of : EndsInRow Comes e → (e.status ≡ 2) ⊎ (e.status ≡ 3) ⊎ (e.status ≡ 4) ⊎ (e.status ≡ 5) ⊎ (e.status ≡ 8) ⊎ (e.status ≡ 9) → same
  unused_of ends low = grind (arith, row_low)

  -- a start that isn't finished ends in 6, 7 or 10; at 9 no disk was called
  unfinished : (bus : NamedBus) (row : Row) → ComesOfStart Format bus d row → (row.status ≡ 9 → same) → EndingTold e.before e.after row.text row.status e.status
      → OverChart i (λ bus events. LeavesEach Format bus d.before d.after) → LeavesChartDisks same i d e
  unfinished bus row start nine (inr (six, rose, part)) left = by_unfinished_start (inl six) left
  unfinished bus row start nine (inl (status_is, well)) left = elim (start_status Format bus d row start) [
    | inl is ↦ as_before (nine is)
    | inr (inl ten) ↦ by_unfinished_start (inr (inr (status_is ∙ ten))) left
    | inr (inr seven) ↦ by_unfinished_start (inr (inl (status_is ∙ seven))) left
  ]

  row_leaves : (row : Row) → Comes row → EndingTold e.before e.after row.text row.status e.status → LeavesChartDisks same i d e
  row_leaves row (without_disks _ comes unused) told = as_before unused
  row_leaves row (not_started _ (bus, events, set, start) nine) told = unfinished bus row start nine told (bus, events, set, Comes-leaves Format bus d row start)
  row_leaves row (all_done _ (bus, events, set, (lines, done, text_is))) told = by_chart (Some lines) (bus, events, set, done)
  row_leaves row (done_without_memory kept over) told = by_chart kept over

  -- ---- a disk that failed is told, or the bus was started

  abbrev FailureTold : ℕ → Type 0
  FailureTold place = EndsInRow (λ row. row ≡ failed_row place) e
      ⊎ ((kept : Option (List Line)) × OverChart i (λ bus events. DoneChart bus events d kept))

  row_failed : (same → d.after ≡ d.before) → (place : ℕ) → CountsDiskFault d place → (row : Row) → Comes row
      → EndingTold e.before e.after row.text row.status e.status → FailureTold place
  row_failed states place rose row (without_disks _ comes unused) told = absurd (none_counted d place (states unused) rose)
  row_failed states place rose row (not_started _ (bus, events, set, start) nine) told =
      inl (record { row = row; comes = failure_told Format bus d row place start rose; told = told })
  row_failed states place rose row (all_done text (bus, events, set, (lines, done, text_is))) told = inr (Some lines, (bus, events, set, done))
  row_failed states place rose row (done_without_memory kept over) told = inr (kept, over)

  -- ---- all of it

  pub RunsChart-ends : (same → d.after ≡ d.before) → EndsChart same i d e → RunsChart same i d e
  RunsChart-ends states ends = record {
    ends = ends;
    disks_unused = unused_of ends;
    leaves = row_leaves ends.row ends.comes ends.told;
    done = EndsInRow-at ends 0 refl row_0;
    usage_told = EndsInRow-at ends 2 refl row_2;
    usage_only = λ nothing. EndsInRow-only ends 2 (λ row comes. row_asks same i d row comes nothing);
    config_refused = EndsInRow-at ends 3 refl row_3;
    config_refused_only = λ file fault asks offers err. EndsInRow-may ends 3 (λ row comes. row_refuses same i d row file fault comes asks offers err);
    refused = EndsInRow-at ends 4 refl row_4;
    refused_only = λ bus text fault offers lines is.
        EndsInRow-may ends 4 (λ row comes. refused_of row bus text fault is (row_offered same i d row bus text comes offers lines));
    read_fault = EndsInRow-at ends 5 refl row_5;
    read_fault_only = λ rose. EndsInRow-only ends 5 (λ row comes. told_fault row i.config i.script (row_tells same i d row comes) rose);
    write_fault = EndsInRow-front ends row_not_6;
    write_fault_only = EndsInRow-rose ends;
    no_memory = EndsInRow-at ends 7 refl row_7;
    too_long = EndsInRow-at ends 8 refl row_8;
    too_long_only = λ more. EndsInRow-only ends 8 (λ row comes. told_too_much row i.config i.script (row_tells same i d row comes) more);
    disks_refused = EndsInRow-at ends 9 refl row_9;
    disks_refused_only = λ bus text events offers lines is lacks.
        EndsInRow-may ends 9 (λ row comes. without_room_of row bus text events is lacks (row_offered same i d row bus text comes offers lines));
    store_refused = EndsInRow-at ends 10 refl row_10;
    failed_disk_told = λ place rose. row_failed states place rose ends.row ends.comes ends.told;
    complete = λ bus text events offers lines is able well.
        EndsInRow-done ends well 0 (λ row comes. complete_of row bus text events is able (row_offered same i d row bus text comes offers lines));
  }
