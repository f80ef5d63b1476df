-- What a run that ends so promises
use Rattle.std.proofs.Common.{◌≡◌, ◌⊎◌, ℕ, ◌<◌, ◌≤◌, Bool, true, false, List, [], inl, inr, refl, sym, ◌∙◌, ap, subst, arith}
use Rattle.std.specs.Prelude.{None, Some, Ok, Err, if◌then◌else◌, ◌==◌}
use Rattle.bus_port.specs.Sink.{SinkState}
use Rattle.text_lines.specs.Readings.{Fault}
use Rattle.program_edge.specs.Input.{input_limit}
use Rattle.program_edge.specs.declared.input.InputFault.TheVariants as input
use Rattle.program_edge.specs.Rows.{Row}
use Rattle.program_edge.specs.Inputs.{IsUnread, Lacks, SourceFailed, CountsFault, GivesTooMuch, CountsTooMuch, Offers}
use Rattle.program_edge.proofs.CallerLemmas.{Lacks-whole, Offers-is, Offers-whole, SourceTells, SourceTells-unread, SourceTells-lacks, SourceTells-whole, SourceTells-fault, SourceTells-long, EndsInRow-at, EndsInRow-front, EndsInRow-rose, EndsInRow-only, EndsInRow-may, EndsInRow-well}
use Rattle.program_edge.specs.Endings.{EndsInRow, EndsIn, MayEndIn, PrintsFront, SinkFailed, CountsWriteFault}
use Rattle.can_logs.specs.declared.map_lines.MapLine.{MapLine}
use Rattle.line_stream.specs.Pieces.{log_lines}
use Rattle.can_logs.specs.LogRuns.{LogInputs, IsUnwritten, WritesWhole, WatchEnding, on_output, on_errors}
use Rattle.can_logs.specs.MapFaults.{map_fault_text, map_input_text}
use Rattle.can_logs.specs.WatchMaps.{NumberedMap, watch_map_of}
use Rattle.locate_commands.specs.LocateOptions.{locate_asked}
use Rattle.locate_commands.specs.Locating.{zeroed, FoundIn, fresh_of, are_settled, located_text, locate_status}
use Rattle.locate_commands.specs.LocateRows.{locate_usage, log_input_text, ReadsAskingMap, IsAskingMapFault, AsksLocate, OverLocate, LocateOnOutput, done, LocateOnErrors, no_map, map_fault, no_log, no_memory, EndsLocate}
use Rattle.locate_commands.specs.Locates.{IsMapPrinted, Locates}

-- ---- statuses

one_test : (b : Bool) → IsMapPrinted (if b then 0 else 1)
one_test true = inl refl
one_test false = inr refl

found_status : (text : List ℕ) (f : FoundIn) → IsMapPrinted (locate_status text f)
found_status text f = one_test (are_settled (fresh_of f) 1 (log_lines text))

found_few : (status : ℕ) → IsMapPrinted status → status ≤ 1
found_few status (inl zero) = omega (arith, zero)
found_few status (inr one) = omega (arith, one)

above_1 : (status : ℕ) → 1 < status → ¬ IsMapPrinted status
above_1 status above = λ is. omega (arith, above, found_few status is)

module _ (i : LogInputs) (e : WatchEnding) where
  -- ---- rows by their status

  output_status : (row : Row) → LocateOnOutput i row → IsMapPrinted row.status
  output_status row (done _ (asked, text, f, names, same, reads, whole, is)) = subst (λ (r : Row). IsMapPrinted r.status) (sym is) (found_status text f)

  output_never_6 : (row : Row) → LocateOnOutput i row → ¬ (row.status ≡ 6)
  output_never_6 row comes = λ six. omega (arith, six, found_few row.status (output_status row comes))

  errors_above_1 : (row : Row) → LocateOnErrors i row → 1 < row.status
  errors_above_1 row comes = grind arith

  errors_never_6 : (row : Row) → LocateOnErrors i row → ¬ (row.status ≡ 6)
  errors_never_6 row comes = λ six. grind arith

  -- what is printed at the status of a fault
  fault_at : EndsLocate i e → (n : ℕ) → (n == 6) ≡ false → 1 < n → {A : Type 0}
      → ((row : Row) → LocateOnErrors i row → row.status ≡ n → IsUnwritten e.output → WritesWhole e.errors row.text → A) → e.status ≡ n → A
  fault_at ends n other above each is = grind (arith, EndsInRow-at, above_1, output_status)

  at_2 : (row : Row) → LocateOnErrors i row → row.status ≡ 2 → IsUnwritten e.output → WritesWhole e.errors row.text
      → (locate_asked i.words ≡ None) × IsUnread i.map × IsUnread i.log × IsUnwritten e.output × WritesWhole e.errors locate_usage
  at_2 row comes two unwritten prints = grind arith

  at_4 : (row : Row) → LocateOnErrors i row → row.status ≡ 4 → IsUnwritten e.output → WritesWhole e.errors row.text
      → AsksLocate i.words × IsUnread i.log × IsUnwritten e.output × ((fault : Fault) × IsAskingMapFault i.map fault × WritesWhole e.errors (map_fault_text fault))
  at_4 row (map_fault fault asks is unread) four unwritten prints = (asks, unread, unwritten, (fault, is, prints))
  at_4 row comes four unwritten prints = absurd (grind arith)

  abbrev AtFive : Type 0
  AtFive = AsksLocate i.words × IsUnwritten e.output
      × ((SourceFailed i.map × IsUnread i.log × WritesWhole e.errors (map_input_text input.ReadFault))
      ⊎ (SourceFailed i.log × WritesWhole e.errors (log_input_text input.ReadFault)))

  at_5 : (row : Row) → LocateOnErrors i row → row.status ≡ 5 → IsUnwritten e.output → WritesWhole e.errors row.text → AtFive
  at_5 row comes five unwritten prints = grind arith

  at_7 : (row : Row) → LocateOnErrors i row → row.status ≡ 7 → IsUnwritten e.output → WritesWhole e.errors row.text
      → AsksLocate i.words × Lacks i.map input.Memory × IsUnwritten e.output × WritesWhole e.errors []
  at_7 row (no_map input.Memory asks lacks unread) seven unwritten prints = (asks, lacks, unwritten, prints)
  at_7 row (no_log input.Memory text mapping asks reads lacks) seven unwritten prints = (asks, Lacks-whole i.map text reads.0, unwritten, prints)
  at_7 row (no_memory asks map log) seven unwritten prints = (asks, map, unwritten, prints)
  at_7 row comes seven unwritten prints = absurd (omega arith)

  abbrev AtEight : Type 0
  AtEight = AsksLocate i.words × IsUnwritten e.output
      × ((GivesTooMuch i.map × IsUnread i.log × WritesWhole e.errors (map_input_text input.TooLong))
      ⊎ (GivesTooMuch i.log × WritesWhole e.errors (log_input_text input.TooLong)))

  at_8 : (row : Row) → LocateOnErrors i row → row.status ≡ 8 → IsUnwritten e.output → WritesWhole e.errors row.text → AtEight
  at_8 row (no_map input.TooLong asks lacks unread) eight unwritten prints = (asks, unwritten, inl (lacks.1, unread, prints))
  at_8 row (no_log input.TooLong text mapping asks reads lacks) eight unwritten prints = (asks, unwritten, inr (lacks.1, prints))
  at_8 row comes eight unwritten prints = absurd (omega arith)

  -- ---- which rows come

  asks_clash : locate_asked i.words ≡ None → AsksLocate i.words → ⊥
  asks_clash other (asked, is) = let clash : None ≡ Some asked = sym other ∙ is in cc

  unwritten_faults : (before after : SinkState) → after ≡ before → before.faults < after.faults → ⊥
  unwritten_faults before after unwritten counts = omega (arith, counts, ap (λ (s : SinkState). s.faults) unwritten)

  ok_is_err : (m : List MapLine) (fault : Fault) (read text : List ℕ) → read ≡ text → watch_map_of (zeroed read) ≡ Ok m → watch_map_of (zeroed text) ≡ Err fault → ⊥
  ok_is_err m fault read text same ok err = let clash : Ok m ≡ Err fault = sym ok ∙ ap (λ t. watch_map_of (zeroed t)) same ∙ err in cc

  map_is_err : (text : List ℕ) (fault : Fault) → Offers i.map text → watch_map_of (zeroed text) ≡ Err fault
      → (read : List ℕ) (mapping : NumberedMap) → ReadsAskingMap i read mapping → ⊥
  map_is_err text fault offers is read mapping (whole, read_is) =
      ok_is_err mapping.lines fault read text (Offers-whole i.map text read offers whole) read_is.0 is

  only_2 : locate_asked i.words ≡ None → (row : Row) → LocateOnErrors i row → row.status ≡ 2
  only_2 other row comes = grind (arith, asks_clash)

  only_4 : (text : List ℕ) (fault : Fault) → AsksLocate i.words → Offers i.map text → watch_map_of (zeroed text) ≡ Err fault → (row : Row) → LocateOnErrors i row
      → (row.status ≡ 4) ⊎ (row.status ≡ 7)
  only_4 text fault names offers is row comes = grind (arith, asks_clash, Offers-is, map_is_err)

  -- what a status says of both sources
  abbrev TellsBoth : ℕ → Type 0
  TellsBoth status = SourceTells input_limit i.map status × SourceTells input_limit i.log status

  errors_tell : (row : Row) → LocateOnErrors i row → TellsBoth row.status
  errors_tell row comes = grind (arith, SourceTells-unread, SourceTells-lacks, SourceTells-whole)

  output_tells : (status : ℕ) (row : Row) → LocateOnOutput i row → TellsBoth status
  output_tells status row (done _ (asked, text, f, names, same, reads, log, is)) =
      (SourceTells-whole input_limit i.map status text reads.0, SourceTells-whole input_limit i.log status f.log log)

  both_tell : EndsLocate i e → (e.status ≡ 6) ⊎ TellsBoth e.status
  both_tell (inl (ends, unwritten)) = inr (output_tells e.status ends.row ends.comes)
  both_tell (inr (ends, unwritten)) = elim ends.told [
    | inl whole ↦ inr (subst TellsBoth (sym whole.0) (errors_tell ends.row ends.comes))
    | inr failed ↦ inl failed.0
  ]

  output_asks : locate_asked i.words ≡ None → (row : Row) → LocateOnOutput i row → ⊥
  output_asks other row (done _ (asked, text, f, names, same, reads, log, is)) = asks_clash other (asked, names)

  output_refuses : (text : List ℕ) (fault : Fault) → Offers i.map text → watch_map_of (zeroed text) ≡ Err fault → (row : Row) → LocateOnOutput i row → ⊥
  output_refuses text fault offers refused row (done _ (asked, read, f, names, same, reads, log, is)) = map_is_err text fault offers refused read f.mapping reads

  completes : (text log : List ℕ) (mapping : List MapLine) → AsksLocate i.words → Offers i.map text → watch_map_of (zeroed text) ≡ Ok mapping → Offers i.log log
      → (row : Row) → LocateOnErrors i row → row.status ≡ 7
  completes text log mapping names offers is log_offers row comes = grind (arith, asks_clash, Offers-is, ok_is_err, Offers-whole)

  -- ---- the promises

  abbrev Found : Type 0
  Found = OverLocate i (λ text f. (e.status ≡ locate_status text f) × WritesWhole e.output (located_text text f) × IsUnwritten e.errors)

  found_row : IsUnwritten e.errors → (row : Row) → LocateOnOutput i row → e.status ≡ row.status → WritesWhole e.output row.text → Found
  found_row unwritten row (done _ (asked, text, f, names, same, reads, log, is)) status_is prints = (
    asked,
    text,
    f,
    names,
    same,
    reads,
    log,
    (
      status_is ∙ ap (λ (r : Row). r.status) is,
      subst (λ (r : Row). WritesWhole e.output r.text) is prints,
      unwritten,
    ),
  )

  found_at : IsUnwritten e.errors → EndsInRow (LocateOnOutput i) (on_output e) → (n : ℕ) → (n == 6) ≡ false → e.status ≡ n → Found
  found_at unwritten ends n other is = EndsInRow-at ends n other (λ row comes at prints. found_row unwritten row comes (is ∙ sym at) prints) is

  errors_found : EndsInRow (LocateOnErrors i) (on_errors e) → (n : ℕ) → (n == 6) ≡ false → n ≤ 1 → e.status ≡ n → ⊥
  errors_found ends n other few is = EndsInRow-at ends n other (λ row comes at prints. omega (arith, at, few, errors_above_1 row comes)) is

  ends_found : EndsLocate i e → IsMapPrinted e.status → Found
  ends_found ends it = grind (arith, found_at, errors_found)

  ends_usage : EndsLocate i e → locate_asked i.words ≡ None → EndsIn 2 (on_errors e)
  ends_usage ends other = grind (arith, output_asks, EndsInRow-only, only_2)

  ends_refused : EndsLocate i e → (text : List ℕ) (fault : Fault) → AsksLocate i.words → Offers i.map text → watch_map_of (zeroed text) ≡ Err fault → MayEndIn 4 (on_errors e)
  ends_refused ends text fault names offers is = grind (arith, output_refuses, EndsInRow-may, only_4)

  ends_read_fault : EndsLocate i e → CountsFault i.map ⊎ CountsFault i.log → EndsIn 5 (on_errors e)
  ends_read_fault ends counts = let tells : (e.status ≡ 6) ⊎ TellsBoth e.status = both_tell ends in grind (arith, SourceTells-fault)

  ends_too_long : EndsLocate i e → CountsTooMuch i.map ⊎ CountsTooMuch i.log → EndsIn 8 (on_errors e)
  ends_too_long ends counts = let tells : (e.status ≡ 6) ⊎ TellsBoth e.status = both_tell ends in grind (arith, SourceTells-long)

  ends_write_fault : EndsLocate i e → e.status ≡ 6
      → (SinkFailed (on_output e) × PrintsFront (LocateOnOutput i) (on_output e)) ⊎ (SinkFailed (on_errors e) × PrintsFront (LocateOnErrors i) (on_errors e))
  ends_write_fault (inl (ends, unwritten)) six = inl (EndsInRow-front ends output_never_6 six)
  ends_write_fault (inr (ends, unwritten)) six = inr (EndsInRow-front ends errors_never_6 six)

  ends_counts : EndsLocate i e → CountsWriteFault (on_output e) ⊎ CountsWriteFault (on_errors e) → e.status ≡ 6
  ends_counts ends counts = grind (arith, EndsInRow-rose, unwritten_faults)

  ends_complete : EndsLocate i e → (text log : List ℕ) (mapping : List MapLine) → AsksLocate i.words → Offers i.map text → watch_map_of (zeroed text) ≡ Ok mapping
      → Offers i.log log → ¬ SinkFailed (on_output e) → ¬ SinkFailed (on_errors e) → IsMapPrinted e.status ⊎ (e.status ≡ 7)
  ends_complete (inl (ends, unwritten)) text log mapping names offers is log_offers well well_errors =
      let (row, comes, status_is, prints) = EndsInRow-well ends well in inl (subst IsMapPrinted (sym status_is) (output_status row comes))
  ends_complete (inr (ends, unwritten)) text log mapping names offers is log_offers well well_errors =
      let (row, comes, status_is, prints) = EndsInRow-well ends well_errors in inr (status_is ∙ completes text log mapping names offers is log_offers row comes)

  pub Locates-ends : EndsLocate i e → Locates i e
  Locates-ends ends = record {
    ends = ends;
    found = ends_found ends;
    usage = fault_at ends 2 refl (omega arith) at_2;
    usage_only = ends_usage ends;
    refused = fault_at ends 4 refl (omega arith) at_4;
    refused_only = ends_refused ends;
    read_fault = fault_at ends 5 refl (omega arith) at_5;
    read_fault_only = ends_read_fault ends;
    write_fault = ends_write_fault ends;
    write_fault_only = ends_counts ends;
    no_memory = fault_at ends 7 refl (omega arith) at_7;
    too_long = fault_at ends 8 refl (omega arith) at_8;
    too_long_only = ends_too_long ends;
    complete = ends_complete ends;
  }
