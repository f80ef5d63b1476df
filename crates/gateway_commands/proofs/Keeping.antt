-- How a gateway ends gives all that it promises
use Rattle.std.specs.Prelude.{◌≡◌, ◌≢◌, ◌⊎◌, ℕ, List, drop, length, Result, Ok, Err, codes}
use Rattle.std.proofs.Common.{refl, ap, subst, arith, inl, inr}
use Rattle.program_edge.specs.Input.{input_fault_status}
use Rattle.program_edge.specs.Told.{EndingTold}
use Rattle.program_edge.specs.declared.input.InputFault.{InputFault}
use Rattle.program_edge.specs.declared.input.InputFault.TheVariants as input
use Rattle.text_lines.specs.Readings.{Fault}
use Rattle.text_lines.specs.Texts.{fault_text_of}
use Rattle.program_edge.specs.Rows.{Row, memory_row}
use Rattle.program_edge.specs.Inputs.{IsUnread, CountsFault, CountsTooMuch, Offers}
use Rattle.program_edge.proofs.CallerLemmas.{Offers-whole}
use Rattle.program_edge.specs.Endings.{Ending, EndsInRow, PrintsWhole, PrintsFront, SinkFailed, CountsWriteFault}
use Rattle.program_edge.proofs.CallerLemmas.{EndsInRow-at, EndsInRow-only, EndsInRow-may, EndsInRow-front, EndsInRow-rose, EndsInRow-done}
use Rattle.cut_disk.specs.State.{DiskState}
use Rattle.run_driver.specs.declared.printing.Unwritten.{Unwritten}
use Rattle.run_driver.specs.declared.printing.Unwritten.TheVariants as unwritten
use Rattle.bus_config.specs.declared.fault.ConfigFault.{ConfigFault}
use Rattle.bus_config.specs.BusFile.{bus_of}
use Rattle.bus_machine.specs.declared.events.Event.{Event}
use Rattle.bus_config.specs.Buses.{NamedBus}
use Rattle.bus_script.specs.EventForms.{own_events_of}
use Rattle.bus_world.specs.declared.start.Start.TheVariants.{Format}
use Rattle.bus_world.specs.declared.start.StartFault.{StartFault}
use Rattle.bus_world.specs.Starts.{HasRoom, FindsRoom}
use Rattle.bus_world.specs.StartRows.{start_row, StoreCause, LeavesEach}
use Rattle.bus_world.specs.StartAnswers.{DiskStates, ComesOfStart, store_refused, BusHasDisks, CountsDiskFault, failed_row}
use Rattle.bus_world.proofs.CallerLemmas.{Comes-leaves, start_status, start_memory, start_without_room, start_complete, none_counted, failure_told}
use Rattle.run_driver.specs.Statuses.{unwritten_status}
use Rattle.bus_programs.specs.BusFiles.{OffersBus}
use Rattle.bus_programs.proofs.CallerLemmas.{same_bus, told_fault, told_too_much, bus_or_fault}
use Rattle.gateway_commands.specs.Headline.{TellsFirst, OneGatewayRun}
use Rattle.gateway_commands.specs.Words.{AsksGateway, AsksNoGateway}
use Rattle.gateway_commands.specs.Texts.{gateway_usage}
use Rattle.bus_programs.specs.Inputs.{BusInputs}
use Rattle.gateway_commands.specs.Inputs.{RefusesPairs, RefusesConfig, NoGatewayConfig, NoGatewayScript, OverGateway, OffersGateway}
use Rattle.gateway_commands.specs.Rows.{ScriptHasFault, RowOfInputs, no_config, no_script, RowOfGateway, without_disks, not_started, DoneGateway, EndsGateway, in_row, ran}
use Rattle.gateway_commands.specs.Promises.{CutShort, EndsEarly, unprepared, unstarted, RunsGateway}
use Rattle.gateway_commands.proofs.Facts.{calm_gateway, row_tells, row_asks, row_refuses, set_not_refused, row_refuses_pairs, OfOffered, offered_events, row_offered}

Ok_not_Err : (r : Result (List Event) Fault) (events : List Event) (fault : Fault) → r ≡ Ok events → r ≡ Err fault → ⊥
Ok_not_Err r events fault ok err = cc

module _ (same : Type 0) (i : BusInputs) (d : DiskStates) (e : Ending) where
  abbrev Comes : Row → Type 0
  Comes = RowOfGateway same i d

  -- ---- which row a status is that of

  fault_is : (fault : InputFault) → (input_fault_status fault ≡ 5) ⊎ ((input_fault_status fault ≡ 8) ⊎ (input_fault_status fault ≡ 7))
  fault_is fault = grind arith

  row_2 : (row : Row) → Comes row → row.status ≡ 2 → PrintsWhole e row.text → AsksNoGateway i.words × IsUnread i.config × IsUnread i.script × PrintsWhole e gateway_usage
  row_2 row comes is well = grind (arith, fault_is, start_status)

  abbrev ConfigTold : Type 0
  ConfigTold = IsUnread i.script × ((pairs : List (ℕ × ℕ)) × AsksGateway i.words pairs × ((text : List ℕ) × RefusesConfig i.config pairs text × PrintsWhole e text))

  row_3 : (row : Row) → Comes row → row.status ≡ 3 → PrintsWhole e row.text → ConfigTold
  row_3 row comes is well = grind (arith, fault_is, start_status)

  row_4 : (row : Row) → Comes row → row.status ≡ 4 → PrintsWhole e row.text → (fault : Fault) × ScriptHasFault i fault × PrintsWhole e (fault_text_of fault)
  row_4 row comes is well = grind (arith, fault_is, start_status)

  abbrev NoInput : InputFault → Type 0
  NoInput fault = NoGatewayConfig i fault ⊎ NoGatewayScript i fault

  row_5 : (row : Row) → Comes row → row.status ≡ 5 → PrintsWhole e row.text → NoInput input.ReadFault × PrintsWhole e (codes "read fault\n")
  row_5 row (without_disks _ (no_config input.ReadFault lack) as_before) is well = (inl lack, well)
  row_5 row (without_disks _ (no_script input.ReadFault lack) as_before) is well = (inr lack, well)
  row_5 row (not_started _ (bus, pairs, events, set, start) nine) is well = absurd (let no : ⊥ = omega (arith, start_status Format bus d row start, is) in no)
  row_5 row comes is well = absurd (omega (arith, is))

  row_8 : (row : Row) → Comes row → row.status ≡ 8 → PrintsWhole e row.text → NoInput input.TooLong × PrintsWhole e (codes "input too long\n")
  row_8 row (without_disks _ (no_config input.TooLong lack) as_before) is well = (inl lack, well)
  row_8 row (without_disks _ (no_script input.TooLong lack) as_before) is well = (inr lack, well)
  row_8 row (not_started _ (bus, pairs, events, set, start) nine) is well = absurd (let no : ⊥ = omega (arith, start_status Format bus d row start, is) in no)
  row_8 row comes is well = absurd (omega (arith, is))

  -- ---- a start that is refused

  inputs_low : (row : Row) → RowOfInputs i row → (row.status ≡ 2) ⊎ ((row.status ≡ 3) ⊎ ((row.status ≡ 4) ⊎ ((row.status ≡ 5) ⊎ ((row.status ≡ 8) ⊎ (row.status ≡ 7)))))
  inputs_low row comes = grind (arith, fault_is)

  abbrev DisksTold : NamedBus → Type 0
  DisksTold bus = (d.after ≡ d.before) × ((fault : StartFault) × FindsRoom bus d.before fault × PrintsWhole e (start_row fault).text)

  start_9 : (bus : NamedBus) (row : Row) → ComesOfStart Format bus d row → row.status ≡ 9 → PrintsWhole e row.text → DisksTold bus
  start_9 bus row comes is well = grind arith

  row_9 : (row : Row) → Comes row → row.status ≡ 9 → PrintsWhole e row.text → OverGateway i (λ bus pairs events. DisksTold bus)
  row_9 row comes is well = grind (arith, inputs_low, start_9)

  abbrev StoreTold : NamedBus → Type 0
  StoreTold bus = LeavesEach Format bus d.before d.after × ((fault : StartFault) × StoreCause Format bus d.before d.after fault × PrintsWhole e (start_row fault).text)

  start_10 : (bus : NamedBus) (row : Row) → ComesOfStart Format bus d row → row.status ≡ 10 → PrintsWhole e row.text → StoreTold bus
  start_10 bus row (store_refused fault room cause left) is well = (left, (fault, cause, well))
  start_10 bus row comes is well = absurd (omega arith)

  row_10 : (row : Row) → Comes row → row.status ≡ 10 → PrintsWhole e row.text → OverGateway i (λ bus pairs events. StoreTold bus)
  row_10 row comes is well = grind (arith, inputs_low, start_10)

  row_not_0 : (row : Row) → Comes row → row.status ≢ 0
  row_not_0 row comes = grind (arith, inputs_low, start_status)

  row_not_6 : (row : Row) → Comes row → row.status ≢ 6
  row_not_6 row comes = grind (arith, inputs_low, start_status)

  -- ---- 6 and 7

  inputs_memory : (row : Row) → RowOfInputs i row → row.status ≡ 7 → row ≡ memory_row
  inputs_memory row comes is = grind arith

  cut_to : (P : Row → Type 0) (row : Row) → P row → row ≡ memory_row → PrintsWhole e row.text → CutShort P e unwritten.Memory
  cut_to P row comes is well = (subst P is comes, subst (λ (r : Row). PrintsWhole e r.text) is well)

  row_7 : (row : Row) → Comes row → row.status ≡ 7 → PrintsWhole e row.text → EndsEarly same i d e unwritten.Memory
  row_7 row (without_disks _ comes as_before) is well = unprepared as_before (cut_to (RowOfInputs i) row comes (inputs_memory row comes is) well)
  row_7 row (not_started _ (bus, pairs, events, set, start) nine) is well =
      unstarted (bus, pairs, events, set, (Comes-leaves Format bus d row start, cut_to (ComesOfStart Format bus d) row start (start_memory Format bus d row start is) well))

  front_early : PrintsFront Comes e → EndsEarly same i d e unwritten.SinkFailed
  front_early (row, without_disks _ comes as_before, part) = unprepared as_before (row, comes, part)
  front_early (row, not_started _ (bus, pairs, events, set, start) nine, part) = unstarted (bus, pairs, events, set, (Comes-leaves Format bus d row start, (row, start, part)))

  -- ---- what makes a row come

  refused_of : (row : Row) (bus : NamedBus) (text : List ℕ) (fault : Fault) → own_events_of bus.nodes text ≡ Err fault → OfOffered d row bus text → (row.status ≡ 4) ⊎ (row.status ≡ 7)
  refused_of row bus text fault is comes = grind (arith, Ok_not_Err)

  without_room_of : (row : Row) (bus : NamedBus) (text : List ℕ) (events : List Event) → own_events_of bus.nodes text ≡ Ok events → ¬ HasRoom bus d.before → OfOffered d row bus text
      → (row.status ≡ 9) ⊎ (row.status ≡ 7)
  without_room_of row bus text events is lacks comes = grind (arith, Ok_not_Err, start_without_room)

  complete_of : (row : Row) (bus : NamedBus) (text : List ℕ) (events : List Event) → own_events_of bus.nodes text ≡ Ok events
      → BusHasDisks Format bus d → OfOffered d row bus text → (row.status ≡ 0) ⊎ (row.status ≡ 7)
  complete_of row bus text events is able comes = grind (arith, Ok_not_Err, start_complete)

  -- ---- a row that comes

  row_low : (row : Row) → Comes row
      → (row.status ≡ 2) ⊎ (row.status ≡ 3) ⊎ (row.status ≡ 4) ⊎ (row.status ≡ 5) ⊎ (row.status ≡ 8) ⊎ (row.status ≡ 9) → same
  row_low row comes low = grind (arith, start_status)

  unused : EndsInRow Comes e → (e.status ≡ 2) ⊎ (e.status ≡ 3) ⊎ (e.status ≡ 4) ⊎ (e.status ≡ 5) ⊎ (e.status ≡ 8) ⊎ (e.status ≡ 9) → same
  unused ends low = grind (arith, row_low)

  abbrev Ended : Result (Unit {0}) Unwritten → Type 0
  Ended result = OverGateway i (λ bus pairs events. DoneGateway bus pairs events d e result)

  one_of : Ended (Ok tt) → TellsFirst d.before
      → OverGateway i (λ bus pairs events. OneGatewayRun bus pairs d.before d.after events e.before e.after (Ok tt))
  one_of (bus, pairs, events, set, done) tells = (bus, pairs, events, set, done.one_run tells)

  row_done : EndsInRow Comes e → e.status ≡ 0 → Ended (Ok tt)
  row_done ends = EndsInRow-at ends 0 refl (λ row comes is well. absurd (row_not_0 row comes is))

  -- no disk is lost, and all but the first are as before
  abbrev DisksBack : Type 0
  DisksBack = (length d.after ≡ length d.before) × (drop 1 d.after ≡ drop 1 d.before)

  row_back : (same → d.after ≡ d.before) → (row : Row) → Comes row → DisksBack
  row_back states row (without_disks _ comes as_before) =
      (ap (λ (ds : List DiskState). length ds) (states as_before), ap (λ (ds : List DiskState). drop 1 ds) (states as_before))
  row_back states row (not_started _ (bus, pairs, events, set, start) nine) =
      let left = Comes-leaves Format bus d row start in
      (left.count, subst (λ (n : ℕ). drop n d.after ≡ drop n d.before) set.set.takes.one left.rest)

  -- a disk that failed has its row, or events were done
  abbrev FailureTold : ℕ → Type 0
  FailureTold place = EndsInRow (λ row. row ≡ failed_row place) e
      ⊎ ((result : Result (Unit {0}) Unwritten) × Ended result)

  row_failed : (same → d.after ≡ d.before) → (place : ℕ) → CountsDiskFault d place → (row : Row) → Comes row
      → EndingTold e.before e.after row.text row.status e.status → FailureTold place
  row_failed states place rose row (without_disks _ comes as_before) told = absurd (none_counted d place (states as_before) rose)
  row_failed states place rose row (not_started _ (bus, pairs, events, set, start) nine) told =
      inl (record { row = row; comes = failure_told Format bus d row place start rose; told = told })

  of_row : (same → d.after ≡ d.before) → EndsInRow Comes e → RunsGateway same i d e
  of_row states ends = record {
    ends = in_row ends;
    as_many = (row_back states ends.row ends.comes).0;
    further = (row_back states ends.row ends.comes).1;
    disks_unused = unused ends;
    done = row_done ends;
    is_a_run = λ is. one_of (row_done ends is);
    usage_told = EndsInRow-at ends 2 refl row_2;
    usage_only = λ nothing. EndsInRow-only ends 2 (λ row comes. row_asks same i d row comes nothing);
    config_refused = EndsInRow-at ends 3 refl row_3;
    config_refused_only = λ pairs file fault asks offers err. EndsInRow-may ends 3 (λ row comes. row_refuses same i d row file fault pairs comes asks offers err);
    pairs_refused_only = λ pairs bus text asks offers refuses. EndsInRow-may ends 3 (λ row comes. row_refuses_pairs same i d row bus pairs text comes asks offers refuses);
    refused = EndsInRow-at ends 4 refl row_4;
    refused_only = λ bus pairs text fault offers lines is.
        EndsInRow-may ends 4 (λ row comes. refused_of row bus text fault is (row_offered same i d row bus pairs text comes offers lines));
    read_fault = EndsInRow-at ends 5 refl row_5;
    read_fault_only = λ rose. EndsInRow-only ends 5 (λ row comes. told_fault row i.config i.script (row_tells same i d row comes) rose);
    write_fault = λ six. let at = EndsInRow-front ends row_not_6 six in (at.0, front_early at.1);
    write_fault_only = EndsInRow-rose ends;
    no_memory = EndsInRow-at ends 7 refl row_7;
    too_long = EndsInRow-at ends 8 refl row_8;
    too_long_only = λ more. EndsInRow-only ends 8 (λ row comes. told_too_much row i.config i.script (row_tells same i d row comes) more);
    disks_refused = EndsInRow-at ends 9 refl row_9;
    disks_refused_only = λ bus pairs text events offers lines is lacks.
        EndsInRow-may ends 9 (λ row comes. without_room_of row bus text events is lacks (row_offered same i d row bus pairs text comes offers lines));
    store_refused = EndsInRow-at ends 10 refl row_10;
    failed_disk_told = λ place rose. row_failed states place rose ends.row ends.comes ends.told;
    complete = λ bus pairs text events offers lines is able well.
        EndsInRow-done ends well 0 (λ row comes. complete_of row bus text events is able (row_offered same i d row bus pairs text comes offers lines));
  }

  -- ---- if the first events were done

  done_status : (result : Result (Unit {0}) Unwritten) → e.status ≡ unwritten_status result → (e.status ≡ 0) ⊎ ((e.status ≡ 6) ⊎ (e.status ≡ 7))
  done_status result is = grind arith

  status_of : (result : Result (Unit {0}) Unwritten) → Ended result → (e.status ≡ 0) ⊎ ((e.status ≡ 6) ⊎ (e.status ≡ 7))
  status_of result over = grind (arith, done_status)

  done_0 : (result : Result (Unit {0}) Unwritten) → Ended result → e.status ≡ 0 → Ended (Ok tt)
  done_0 (Ok tt) over is = over
  done_0 result ended is = absurd (grind arith)

  done_6 : (result : Result (Unit {0}) Unwritten) → Ended result → e.status ≡ 6 → SinkFailed e × EndsEarly same i d e unwritten.SinkFailed
  done_6 result over is = grind arith

  done_7 : (result : Result (Unit {0}) Unwritten) → Ended result → e.status ≡ 7 → EndsEarly same i d e unwritten.Memory
  done_7 result over is = grind arith

  done_writes : (result : Result (Unit {0}) Unwritten) → Ended result → CountsWriteFault e → e.status ≡ 6
  done_writes result over rose = grind arith

  done_well : (result : Result (Unit {0}) Unwritten) → Ended result → ¬ SinkFailed e → (e.status ≡ 0) ⊎ (e.status ≡ 7)
  done_well result over well = grind arith

  ran_calm : (result : Result (Unit {0}) Unwritten) → Ended result → CountsFault i.config ⊎ CountsFault i.script → ⊥
  ran_calm result over counts = grind (arith, calm_gateway)

  ran_within : (result : Result (Unit {0}) Unwritten) → Ended result → CountsTooMuch i.config ⊎ CountsTooMuch i.script → ⊥
  ran_within result over counts = grind (arith, calm_gateway)

  ran_refused : (result : Result (Unit {0}) Unwritten) → Ended result → (bus : NamedBus) (pairs : List (ℕ × ℕ)) (text : List ℕ) (fault : Fault) → OffersGateway i bus pairs
      → Offers i.script text → own_events_of bus.nodes text ≡ Err fault → ⊥
  ran_refused result (over, p, events, set, done) bus pairs text fault offers lines is =
      Ok_not_Err (own_events_of bus.nodes text) events fault
      (offered_events i bus over pairs p set.text text (Ok events) set.set (Offers-whole i.script text set.text lines set.whole) set.has offers) is

  ran_room : (result : Result (Unit {0}) Unwritten) → Ended result → (bus : NamedBus) (pairs : List (ℕ × ℕ)) → OffersGateway i bus pairs → HasRoom bus d.before
  ran_room result (over, p, events, set, done) bus pairs offers =
      subst (λ (b : NamedBus). HasRoom b d.before) (same_bus i.config over bus set.set.of_bus offers.of_bus) done.ran.room

  asked : (result : Result (Unit {0}) Unwritten) → Ended result → AsksNoGateway i.words → ⊥
  asked result (bus, pairs, events, set, done) nothing = nothing pairs set.set.asks

  has_bus : (result : Result (Unit {0}) Unwritten) → Ended result → (file : List ℕ) (fault : ConfigFault) → Offers i.config file → bus_of file ≡ Err fault → ⊥
  has_bus result (bus, pairs, events, set, done) file fault offers err = bus_or_fault i.config bus file fault set.set.of_bus offers err

  takes : (result : Result (Unit {0}) Unwritten) → Ended result → (pairs : List (ℕ × ℕ)) (bus : NamedBus) (text : List ℕ) → AsksGateway i.words pairs → OffersBus i.config bus
      → RefusesPairs bus pairs text → ⊥
  takes result (over, p, events, set, done) pairs bus text asks offers refuses = set_not_refused i bus over pairs p text set.set asks offers refuses

  ran_back : (result : Result (Unit {0}) Unwritten) → Ended result → DisksBack
  ran_back result (bus, pairs, events, set, done) = (done.stay.count, done.stay.rest)

  of_run : (result : Result (Unit {0}) Unwritten) → Ended result → RunsGateway same i d e
  of_run result over = record {
    ends = ran result over;
    as_many = (ran_back result over).0;
    further = (ran_back result over).1;
    disks_unused = λ low. absurd (let no : ⊥ = omega (arith, status_of result over, low) in no);
    done = done_0 result over;
    is_a_run = λ is. one_of (done_0 result over is);
    usage_told = λ is. absurd (let no : ⊥ = omega (arith, status_of result over, is) in no);
    usage_only = λ nothing. absurd (asked result over nothing);
    config_refused = λ is. absurd (let no : ⊥ = omega (arith, status_of result over, is) in no);
    config_refused_only = λ pairs file fault asks offers err. absurd (has_bus result over file fault offers err);
    pairs_refused_only = λ pairs bus text asks offers refuses. absurd (takes result over pairs bus text asks offers refuses);
    refused = λ is. absurd (let no : ⊥ = omega (arith, status_of result over, is) in no);
    refused_only = λ bus pairs text fault offers lines is. absurd (ran_refused result over bus pairs text fault offers lines is);
    read_fault = λ is. absurd (let no : ⊥ = omega (arith, status_of result over, is) in no);
    read_fault_only = λ rose. absurd (ran_calm result over rose);
    write_fault = done_6 result over;
    write_fault_only = done_writes result over;
    no_memory = done_7 result over;
    too_long = λ is. absurd (let no : ⊥ = omega (arith, status_of result over, is) in no);
    too_long_only = λ more. absurd (ran_within result over more);
    disks_refused = λ is. absurd (let no : ⊥ = omega (arith, status_of result over, is) in no);
    disks_refused_only = λ bus pairs text events offers lines is lacks. absurd (lacks (ran_room result over bus pairs offers));
    store_refused = λ is. absurd (let no : ⊥ = omega (arith, status_of result over, is) in no);
    failed_disk_told = λ place rose. inr (result, over);
    complete = λ bus pairs text events offers lines is able well. done_well result over well;
  }

  pub RunsGateway-ends : (same → d.after ≡ d.before) → EndsGateway same i d e → RunsGateway same i d e
  RunsGateway-ends states (in_row ends) = of_row states ends
  RunsGateway-ends states (ran result over) = of_run result over
