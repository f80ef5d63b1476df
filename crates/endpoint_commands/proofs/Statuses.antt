-- What a run promises that ends in a row before the log, or took lines of it
use Rattle.std.specs.Prelude.{◌≡◌, ◌≢◌, ◌⊎◌, ◌<◌, ◌≤◌, ℕ, ◌==◌, false, Option, List, length, codes}
use Rattle.std.proofs.Common.{refl, sym, ap, ◌∙◌, subst, arith, inl, inr}
use Rattle.bus_port.specs.Fault.{last_count}
use Rattle.bus_port.specs.Sink.{SinkState}
use Rattle.text_lines.specs.Readings.{Fault}
use Rattle.text_lines.specs.Texts.{fault_text_of}
use Rattle.program_edge.specs.Rows.{Row}
use Rattle.program_edge.specs.Inputs.{IsUnread, SourceFailed, CountsFault, CountsTooMuch}
use Rattle.program_edge.specs.Endings.{EndsIn, EndsInRow, SinkFailed, CountsWriteFault}
use Rattle.program_edge.proofs.CallerLemmas.{EndsInRow-more, EndsInRow-at, EndsInRow-front, EndsInRow-rose, EndsInRow-well, EndsInRow-only, EndsInRow-may}
use Rattle.can_logs.specs.LogRuns.{IsUnwritten, WatchEnding, on_output, on_errors}
use Rattle.bus_config.specs.Buses.{NamedBus}
use Rattle.bus_world.specs.Starts.{HasRoom, FindsRoom}
use Rattle.bus_world.specs.declared.start.StartFault.{StartFault}
use Rattle.bus_world.specs.StartRows.{start_row}
use Rattle.bus_world.specs.StartAnswers.{DiskStates, CountsDiskFault}
use Rattle.kept_starts.specs.KeepRows.{BusKeepsDisk, HoldsNoStore, RefusesStart}
use Rattle.kept_starts.proofs.CallerLemmas.{look_keeps, refuses_more, same_told}
use Rattle.bus_world.proofs.CallerLemmas.{no_disk, no_line}
use Rattle.endpoint_commands.specs.declared.rules.FrameRule.{FrameRule}
use Rattle.endpoint_commands.specs.Rows.{EndpointInputs, OverEndpoint, SetsEndpoint, HasMapFault, ComesBeforeLog, OffersEndpoint}
use Rattle.endpoint_commands.specs.Logs.{Unfailed}
use Rattle.endpoint_commands.specs.Promises.{opening_of, DidEndpoint, DoesEndpoint, not_started, did, ComesUnlogged, of_inputs, unstarted, EndsEndpoint}
use Rattle.endpoint_commands.specs.Table.{AnswersWholeLog, AnswersComplete, LogFailsFirst, StopsAtDisk, FirstDiskFailed, TellsText, TellsEndpointUsage, TellsRefused, by_fault, by_nodes, by_image, RefusesEndpoint, TellsEndpointPorts, TellsEndpointDisk, RunsEndpoint}
use Rattle.endpoint_commands.proofs.RowTells.{pick, Tells3, Tells4, Tells9, Tells10, unlogged, tells_at, row_range, row_failure}
use Rattle.endpoint_commands.proofs.LogTells.{TellsFirst, LogTells, booted_tells}
use Rattle.endpoint_commands.proofs.FaultCounts.{ran_calm, ran_rose, ran_quiet}
use Rattle.endpoint_commands.proofs.Causes.{sets_calm, faults_5, too_much_8, only_2, fault_unset, config_only, nodes_unset, nodes_only, map_unset, map_only, image_unset, image_only, valid_bus, room_only, store_only, valid_7}

-- ---- a run that ends in a row

module _ (same : Type 0) (i : EndpointInputs) (d : DiskStates) (e : WatchEnding) (ends : EndsInRow (ComesUnlogged same i d) (on_errors e)) (unwritten : IsUnwritten e.output) where
  -- the status isn't 6, and a row that comes tells this of it
  at : (n : ℕ) → (n == 6) ≡ false → {A : Type 0} → ((row : Row) → ComesUnlogged same i d row → row.status ≡ n → TellsText e row.text → A) → e.status ≡ n → A
  at n other each is = EndsInRow-at ends n other (λ row comes told printed. each row comes told (unwritten, printed)) is

  status_6 : (row : Row) → ComesUnlogged same i d row → row.status ≢ 6
  status_6 row comes = λ is. tells_at same i d 6 row comes is

  row_usage : e.status ≡ 2 → TellsEndpointUsage i e
  row_usage = at 2 refl (λ row comes is printed.
      let (text, other, unread, before) = tells_at same i d 2 row comes is in
      (other, unread, subst (TellsText e) text printed))

  told_3 : (row : Row) → Tells3 same i d row → TellsText e row.text → TellsRefused i e
  told_3 row (inl (fault, has, text), before) printed = by_fault fault row.text has text printed
  told_3 row (inr (inl (has, text)), before) printed = by_nodes has (subst (TellsText e) text printed)
  told_3 row (inr (inr (has, text)), before) printed = by_image has (subst (TellsText e) text printed)

  told_4 : (row : Row) → Tells4 same i d row → TellsText e row.text → (fault : Fault) × HasMapFault i fault × TellsText e (fault_text_of fault)
  told_4 row ((fault, has, text), before) printed = (fault, has, subst (TellsText e) text printed)

  row_inputs : RefusesEndpoint i e
  row_inputs = record {
    usage = row_usage;
    usage_only = λ other. EndsInRow-only ends 2 (only_2 i other same d);
    refused = at 3 refl (λ row comes is printed. told_3 row (tells_at same i d 3 row comes is) printed);
    config_refused_only = λ file fault asks offers err. EndsInRow-may ends 3 (config_only i file fault asks offers err same d);
    nodes_refused_only = λ bus asks offers other. EndsInRow-may ends 3 (nodes_only i bus asks offers other same d);
    image_refused_only = λ bus rules image offered boots offers other. EndsInRow-may ends 3 (image_only i bus rules offered image boots offers other same d);
    map_refused = at 4 refl (λ row comes is printed. told_4 row (tells_at same i d 4 row comes is) printed);
    map_refused_only = λ bus text fault offered offers err. EndsInRow-may ends 4 (map_only i bus offered text fault offers err same d);
  }

  row_rose : CountsWriteFault (on_output e) ⊎ CountsWriteFault (on_errors e) → e.status ≡ 6
  row_rose (inl output) = absurd (let no : ⊥ = omega (arith, ap (λ (s : SinkState). s.faults) unwritten, output) in no)
  row_rose (inr errors) = EndsInRow-rose ends errors

  row_ports : TellsEndpointPorts same i d e
  row_ports = record {
    read_fault = at 5 refl (λ row comes is printed.
        let (lacks, text) = tells_at same i d 5 row comes is in
        inl (lacks, subst (TellsText e) text printed));
    read_fault_only = λ counts. EndsInRow-only ends 5 (λ row comes. faults_5 i same d row comes counts);
    write_fault = λ six. let (fails, front) = EndsInRow-front ends status_6 six in inl (fails, unwritten, front);
    write_fault_only = row_rose;
    log_fails_first = λ six rose. absurd (let no : ⊥ = omega (arith, unlogged same i d ends.row ends.comes, rose) in no);
    no_memory = at 7 refl (λ row comes is printed.
        let (memory, unread) = tells_at same i d 7 row comes is in
        (subst (ComesUnlogged same i d) memory comes, unread, subst (λ (r : Row). TellsText e r.text) memory printed));
    too_long = at 8 refl (λ row comes is printed.
        let (lacks, text) = tells_at same i d 8 row comes is in
        inl (lacks, subst (TellsText e) text printed));
    too_long_only = λ counts. EndsInRow-only ends 8 (λ row comes. too_much_8 i same d row comes counts);
  }

  row_unused : (e.status ≡ 2) ⊎ (e.status ≡ 3) ⊎ (e.status ≡ 4) ⊎ (e.status ≡ 9) → same
  row_unused (inl two) = at 2 refl (λ row comes is printed. (tells_at same i d 2 row comes is).3) two
  row_unused (inr (inl three)) = at 3 refl (λ row comes is printed. (tells_at same i d 3 row comes is).1) three
  row_unused (inr (inr (inl four))) = at 4 refl (λ row comes is printed. (tells_at same i d 4 row comes is).1) four
  row_unused (inr (inr (inr nine))) = at 9 refl (λ row comes is printed. (tells_at same i d 9 row comes is).2) nine

  told_9 : (row : Row) → Tells9 same i d row → TellsText e row.text → IsUnread i.log × OverEndpoint i (λ bus rules image.
      (fault : StartFault) × FindsRoom bus d.before fault × (d.after ≡ d.before) × TellsText e (start_row fault).text)
  told_9 row (log, (bus, rules, image, sets, (fault, finds, left, text)), before) printed =
      (log, (bus, rules, image, sets, (fault, finds, left, subst (TellsText e) text printed)))

  told_10 : (row : Row) → Tells10 same i d row → TellsText e row.text → IsUnread i.log × OverEndpoint i (λ bus rules image. RefusesStart bus d (λ text. TellsText e text))
  told_10 row (log, (bus, rules, image, sets, refuses)) printed =
      (log, (bus, rules, image, sets, refuses_more bus d (λ text. row.text ≡ text) (λ text. TellsText e text) (λ text is. subst (TellsText e) is printed) refuses))

  row_disk : (same → d.after ≡ d.before) → TellsEndpointDisk same i d e
  row_disk kept = record {
    unused = row_unused;
    disks_refused = at 9 refl (λ row comes is printed. told_9 row (tells_at same i d 9 row comes is) printed);
    disks_refused_only = λ bus rules image offered none. EndsInRow-may ends 9 (room_only i bus rules image offered same d none);
    store_refused = at 10 refl (λ row comes is printed. told_10 row (tells_at same i d 10 row comes is) printed);
    store_refused_only = λ bus rules image offered room none. EndsInRow-may ends 10 (store_only i bus rules image offered same d room);
    disk_failed = at 11 refl (λ row comes is printed. absurd (tells_at same i d 11 row comes is));
    disk_failed_only = λ rose. inl (record { row = ends.row; comes = row_failure same i d kept ends.row ends.comes rose; told = ends.told }, unwritten);
  }

  row_statuses : (e.status ≡ 0) ⊎ ((2 ≤ e.status) × (e.status ≤ 11))
  row_statuses = elim ends.told [
    | inl (is, printed) ↦ let range = row_range same i d ends.row ends.comes in inr (omega (arith, is, range.0), omega (arith, is, range.1))
    | inr (six, rose, part) ↦ inr (omega (arith, six), omega (arith, six))
  ]

  pub ended_in_row : (same → d.after ≡ d.before) → RunsEndpoint same i d e
  ended_in_row kept = record {
    ends = inl (ends, unwritten);
    statuses = row_statuses;
    answered = at 0 refl (λ row comes is printed. absurd (tells_at same i d 0 row comes is));
    complete = λ bus rules image offered able log few output well.
        let (row, comes, status_is, prints) = EndsInRow-well ends well in
        inr (status_is ∙ valid_7 i bus rules image offered same d able row comes);
    inputs = row_inputs;
    ports = row_ports;
    disk = row_disk kept;
  }

-- ---- a run that took lines of the log

module _ (same : Type 0) (i : EndpointInputs) (d : DiskStates) (e : WatchEnding) (bus : NamedBus) (rules : List FrameRule) (image : Option (List ℕ)) (sets : SetsEndpoint i bus rules image)
    (x : DidEndpoint bus rules image i.log d e) where
  tells : LogTells rules x.ran.booted (opening_of x.told) i.log e x.ran.now x.lines
  tells = booted_tells rules x.ran.booted (opening_of x.told) i.log e x.ran.now x.lines x.ends

  -- the status, and what it says
  abbrev LogAt : ℕ → Type 0
  LogAt n = pick (n == 0) (AnswersWholeLog bus rules image i.log d e)
      (pick (n == 5) (SourceFailed i.log × AnswersComplete bus rules image i.log d e (codes "read fault\n"))
      (pick (n == 8) ((answers : AnswersComplete bus rules image i.log d e (codes "input too long\n")) × (last_count ≤ length answers.read.bytes))
      (pick (n == 11) (FirstDiskFailed d × StopsAtDisk bus rules image i.log d e)
      (pick (n == 6) ((SinkFailed (on_output e) ⊎ SinkFailed (on_errors e)) × (CountsFault i.log → LogFailsFirst bus rules image i.log d e)) ⊥))))

  fails_first : (i.log.after.faults ≡ i.log.before.faults) ⊎ TellsFirst rules x.ran.booted (opening_of x.told) i.log e x.ran.now x.lines → CountsFault i.log
      → LogFailsFirst bus rules image i.log d e
  fails_first (inl calm) rose = absurd (let no : ⊥ = omega (arith, calm, rose) in no)
  fails_first (inr (read, prints, part)) rose = record { did = x; read = read; prints = prints; tells = part }

  log_at : LogAt e.status
  log_at = elim tells [
    | inl (is, (read, unfailed, prints, untold)) ↦ subst LogAt (sym is) (record { did = x; read = read; unfailed = unfailed; prints = prints; untold = untold })
    | inr (inl (is, (fails, read, unfailed, prints, told))) ↦ subst LogAt (sym is) (fails, record { did = x; read = read; unfailed = unfailed; prints = prints; tells = told })
    | inr (inr (inl (is, (calm, read, long, unfailed, prints, told)))) ↦
        subst LogAt (sym is) (record { did = x; read = read; unfailed = unfailed; prints = prints; tells = told }, long)
    | inr (inr (inr (inl (is, (earlier, last, lines, unfailed, fails, calm, prints, untold))))) ↦ subst LogAt (sym is) (
      ran_rose bus rules image d x.told x.lines x.ran earlier last lines fails,
      record { did = x; earlier = earlier; last = last; lines_are = lines; unfailed = unfailed; tells = fails; calm = calm; prints = prints; untold = untold },
    )
    | inr (inr (inr (inr (is, (fails, first))))) ↦ subst LogAt (sym is) (fails, fails_first first)
  ]

  here : (n : ℕ) → e.status ≡ n → LogAt n
  here n is = subst LogAt is log_at

  did_statuses : (e.status ≡ 0) ⊎ ((2 ≤ e.status) × (e.status ≤ 11))
  did_statuses = elim tells [
    | inl done ↦ inl done.0
    | inr (inl failed) ↦ inr (omega (arith, failed.0), omega (arith, failed.0))
    | inr (inr (inl long)) ↦ inr (omega (arith, long.0), omega (arith, long.0))
    | inr (inr (inr (inl stopped))) ↦ inr (omega (arith, stopped.0), omega (arith, stopped.0))
    | inr (inr (inr (inr sink))) ↦ inr (omega (arith, sink.0), omega (arith, sink.0))
  ]

  -- neither count of a sink rose
  both_calm : e.output.after.faults ≡ e.output.before.faults → e.errors.after.faults ≡ e.errors.before.faults
      → CountsWriteFault (on_output e) ⊎ CountsWriteFault (on_errors e) → ⊥
  both_calm output errors (inl rose) = omega (arith, output, rose)
  both_calm output errors (inr rose) = omega (arith, errors, rose)

  silent : IsUnwritten e.errors → e.errors.after.faults ≡ e.errors.before.faults
  silent untold = ap (λ (s : SinkState). s.faults) untold

  did_writes : CountsWriteFault (on_output e) ⊎ CountsWriteFault (on_errors e) → e.status ≡ 6
  did_writes rose = elim tells [
    | inl (is, (read, unfailed, prints, untold)) ↦ absurd (both_calm prints.0 (silent untold) rose)
    | inr (inl (is, (fails, read, unfailed, prints, told))) ↦ absurd (both_calm prints.0 told.0 rose)
    | inr (inr (inl (is, (calm, read, long, unfailed, prints, told)))) ↦ absurd (both_calm prints.0 told.0 rose)
    | inr (inr (inr (inl (is, (earlier, last, lines, unfailed, fails, calm, prints, untold))))) ↦ absurd (both_calm prints.0 (silent untold) rose)
    | inr (inr (inr (inr sink))) ↦ sink.0
  ]

  log_faults : CountsFault i.log → EndsIn 5 (on_errors e)
  log_faults rose = elim tells [
    | inl (is, (read, unfailed, prints, untold)) ↦ absurd (let no : ⊥ = omega (arith, read.reads.no_fault, rose) in no)
    | inr (inl failed) ↦ inl failed.0
    | inr (inr (inl (is, (calm, read, long, unfailed, prints, told)))) ↦ absurd (let no : ⊥ = omega (arith, calm, rose) in no)
    | inr (inr (inr (inl (is, (earlier, last, lines, unfailed, fails, calm, prints, untold))))) ↦ absurd (let no : ⊥ = omega (arith, calm, rose) in no)
    | inr (inr (inr (inr sink))) ↦ inr sink.0
  ]

  did_faults : CountsFault i.config ⊎ CountsFault i.map ⊎ CountsFault i.image ⊎ CountsFault i.log → EndsIn 5 (on_errors e)
  did_faults (inl config) = absurd (let no : ⊥ = omega (arith, (sets_calm i bus rules image sets).0.0, config) in no)
  did_faults (inr (inl map)) = absurd (let no : ⊥ = omega (arith, (sets_calm i bus rules image sets).1.0, map) in no)
  did_faults (inr (inr (inl had))) = absurd (let no : ⊥ = omega (arith, (sets_calm i bus rules image sets).2.0, had) in no)
  did_faults (inr (inr (inr log))) = log_faults log

  did_too_much : CountsTooMuch i.config ⊎ CountsTooMuch i.map ⊎ CountsTooMuch i.image → EndsIn 8 (on_errors e)
  did_too_much (inl config) = absurd (let no : ⊥ = omega (arith, (sets_calm i bus rules image sets).0.1 config.0, config.1) in no)
  did_too_much (inr (inl map)) = absurd (let no : ⊥ = omega (arith, (sets_calm i bus rules image sets).1.1 map.0, map.1) in no)
  did_too_much (inr (inr had)) = absurd (let no : ⊥ = omega (arith, (sets_calm i bus rules image sets).2.1 had.0, had.1) in no)

  -- lines that tell no failure raised no count
  unraised : Unfailed x.lines → CountsDiskFault d 0 → ⊥
  unraised unfailed rose = omega (arith, ran_calm bus rules image d x.told x.lines x.ran unfailed no_disk, rose no_disk)

  did_raise : CountsDiskFault d 0 → EndsIn 11 (on_output e)
  did_raise rose = elim tells [
    | inl (is, (read, unfailed, prints, untold)) ↦ absurd (unraised unfailed rose)
    | inr (inl (is, (fails, read, unfailed, prints, told))) ↦ absurd (unraised unfailed rose)
    | inr (inr (inl (is, (calm, read, long, unfailed, prints, told)))) ↦ absurd (unraised unfailed rose)
    | inr (inr (inr (inl stopped))) ↦ inl stopped.0
    | inr (inr (inr (inr sink))) ↦ inr sink.0
  ]

  -- a disk that serves didn't fail
  disk_serves : (other : NamedBus) (some : List FrameRule) (had : Option (List ℕ)) → OffersEndpoint i other some had → BusKeepsDisk other d → FirstDiskFailed d → ⊥
  disk_serves other some had offered able failed = elim (able.0.1 0 no_line no_disk (let inside : 0 < length other.nodes = omega (arith, offered.0.0.2) in inside)).1 [
    | inl quiet ↦ ran_quiet bus rules image d x.told x.lines x.ran quiet failed
    | inr calm ↦ calm (failed no_disk)
  ]

  did_complete : ¬ FirstDiskFailed d → ¬ SourceFailed i.log → i.log.after.taken < last_count → ¬ SinkFailed (on_output e) → ¬ SinkFailed (on_errors e)
      → (e.status ≡ 0) ⊎ (e.status ≡ 7)
  did_complete disk log few output errors = elim tells [
    | inl done ↦ inl done.0
    | inr (inl (is, (fails, read, unfailed, prints, told))) ↦ absurd (log fails)
    | inr (inr (inl (is, (calm, read, long, unfailed, prints, told)))) ↦ absurd (let no : ⊥ = omega (arith, read.came.counted, long, few) in no)
    | inr (inr (inr (inl (is, (earlier, last, lines, unfailed, fails, calm, prints, untold))))) ↦
        absurd (disk (ran_rose bus rules image d x.told x.lines x.ran earlier last lines fails))
    | inr (inr (inr (inr (is, (inl fails, first))))) ↦ absurd (output fails)
    | inr (inr (inr (inr (is, (inr fails, first))))) ↦ absurd (errors fails)
  ]

  -- the node was started over the bytes of its disk
  holds_store : HoldsNoStore bus d.before → ⊥
  holds_store none =
      let (told, is, refused) = none no_disk in
      refused (
        look_keeps bus d.before x.ran.seen x.ran.look x.ran.room no_disk told is,
        (x.ran.start.node.kept, (x.ran.opened no_disk).kept told (same_told bus d.before x.ran.seen x.ran.look 0 no_disk ∙ is)),
      )

  -- a bus that is offered is this one
  did_room : (other : NamedBus) (some : List FrameRule) (had : Option (List ℕ)) → OffersEndpoint i other some had → HasRoom other d.before
  did_room other some had offered = subst (λ (b : NamedBus). HasRoom b d.before) (valid_bus i other some had offered bus rules image sets) x.ran.room

  did_store : (other : NamedBus) (some : List FrameRule) (had : Option (List ℕ)) → OffersEndpoint i other some had → HoldsNoStore other d.before → ⊥
  did_store other some had offered none = holds_store (subst (λ (b : NamedBus). HoldsNoStore b d.before) (sym (valid_bus i other some had offered bus rules image sets)) none)

  did_inputs : RefusesEndpoint i e
  did_inputs = record {
    usage = λ is. absurd (here 2 is);
    usage_only = λ other. absurd (other sets.0);
    refused = λ is. absurd (here 3 is);
    config_refused_only = λ file fault asks offers err. absurd (fault_unset i file fault asks offers err bus rules image sets);
    nodes_refused_only = λ other asks offers many. absurd (nodes_unset i other asks offers many bus rules image sets);
    image_refused_only = λ other some had offered boots offers not. absurd (image_unset i other some offered had boots offers not bus rules image sets);
    map_refused = λ is. absurd (here 4 is);
    map_refused_only = λ other text fault offered offers err. absurd (map_unset i other offered text fault offers err bus rules image sets);
  }

  did_ports : TellsEndpointPorts same i d e
  did_ports = record {
    read_fault = λ is. let (fails, answers) = here 5 is in inr (fails, (bus, rules, image, sets, answers));
    read_fault_only = did_faults;
    write_fault = λ is. let (fails, first) = here 6 is in inr (fails, (bus, rules, image, sets, x));
    write_fault_only = did_writes;
    log_fails_first = λ is rose. let (fails, first) = here 6 is in (bus, rules, image, sets, first rose);
    no_memory = λ is. absurd (here 7 is);
    too_long = λ is. inr (bus, rules, image, sets, here 8 is);
    too_long_only = did_too_much;
  }

  did_disk : TellsEndpointDisk same i d e
  did_disk = record {
    unused = λ is. elim is [
      | inl two ↦ absurd (here 2 two)
      | inr (inl three) ↦ absurd (here 3 three)
      | inr (inr (inl four)) ↦ absurd (here 4 four)
      | inr (inr (inr nine)) ↦ absurd (here 9 nine)
    ];
    disks_refused = λ is. absurd (here 9 is);
    disks_refused_only = λ other some had offered none. absurd (none (did_room other some had offered));
    store_refused = λ is. absurd (here 10 is);
    store_refused_only = λ other some had offered room none. absurd (did_store other some had offered none);
    disk_failed = λ is. let (rose, stops) = here 11 is in (rose, (bus, rules, image, sets, stops));
    disk_failed_only = λ rose. inr (did_raise rose);
  }

  pub took_lines : RunsEndpoint same i d e
  took_lines = record {
    ends = inr (bus, rules, image, sets, x);
    statuses = did_statuses;
    answered = λ is. (bus, rules, image, sets, here 0 is);
    complete = λ other some had offered able log few output errors. did_complete (disk_serves other some had offered able) log few output errors;
    inputs = did_inputs;
    ports = did_ports;
    disk = did_disk;
  }

-- however it ends; `same` says so of what is known of the disks, too
pub runs_endpoint : (same : Type 0) (i : EndpointInputs) (d : DiskStates) (e : WatchEnding) → (same → d.after ≡ d.before) → EndsEndpoint same i d e → RunsEndpoint same i d e
runs_endpoint same i d e kept (inl (ends, unwritten)) = ended_in_row same i d e ends unwritten kept
runs_endpoint same i d e kept (inr (bus, rules, image, sets, x)) = took_lines same i d e bus rules image sets x

-- a node that isn't started over inputs that were read whole, or that took lines
pub ends_does : (same : Type 0) (i : EndpointInputs) (d : DiskStates) (e : WatchEnding) (bus : NamedBus) (rules : List FrameRule) (image : Option (List ℕ)) → SetsEndpoint i bus rules image
    → DoesEndpoint same bus rules image i.log d e → EndsEndpoint same i d e
ends_does same i d e bus rules image sets (not_started ends unwritten unread) = inl (EndsInRow-more (λ row comes. unstarted row (bus, rules, image, sets, comes) unread) ends, unwritten)
ends_does same i d e bus rules image sets (did x) = inr (bus, rules, image, sets, x)

-- a row that comes before the log was told, and nothing was printed
pub ends_refused : (i : EndpointInputs) (e : WatchEnding) → (same : Type 0) (d : DiskStates) → same → EndsInRow (ComesBeforeLog i) (on_errors e) → IsUnwritten e.output → EndsEndpoint same i d e
ends_refused i e same d known ends unwritten = inl (EndsInRow-more (λ row comes. of_inputs row comes known) ends, unwritten)
