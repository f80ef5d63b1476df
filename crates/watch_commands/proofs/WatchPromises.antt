-- What a run that ends so promises
use Rattle.std.proofs.Common.{◌≡◌, ◌⊎◌, ℕ, ◌<◌, ◌≤◌, Bool, true, false, List, [], ◌∷◌, length, inl, inr, refl, sym, ◌∙◌, ap, subst, arith}
use Rattle.std.specs.Prelude.{None, Some, Ok, Err, if◌then◌else◌, nat_lt, ◌==◌, ◌&&◌}
use Rattle.std.proofs.lemmas.Bool.Decides.{nat_tests}
use Rattle.std.proofs.lemmas.Option.{same_Some}
use Rattle.bus_port.specs.Fault.{last_count}
use Rattle.bus_port.specs.Source.{SourceState, Came}
use Rattle.bus_port.specs.Sink.{SinkState}
use Rattle.text_lines.specs.Readings.{Fault}
use Rattle.program_edge.specs.Input.{input_fault_status}
use Rattle.program_edge.specs.declared.input.InputFault.TheVariants as input
use Rattle.program_edge.specs.Told.{EndingTold}
use Rattle.program_edge.specs.Rows.{Row}
use Rattle.program_edge.specs.Inputs.{Reading, IsUnread, ReadsWhole, Lacks, SourceFailed, CountsFault, GivesTooMuch, CountsTooMuch, Offers}
use Rattle.program_edge.proofs.CallerLemmas.{Lacks-whole, CountsFault-is, CountsTooMuch-is, Offers-is, Offers-whole, EndsInRow-at, EndsInRow-front, EndsInRow-rose, EndsInRow-only, EndsInRow-may, EndsInRow-well}
use Rattle.program_edge.specs.Endings.{EndsInRow, EndsIn, MayEndIn, PrintsFront, SinkFailed, CountsWriteFault}
use Rattle.can_logs.specs.declared.map_lines.MapLine.{MapLine}
use Rattle.can_logs.specs.LogRuns.{LogInputs, IsWatchMapFault, IsUnwritten, WritesWhole, WatchEnding, on_output, on_errors, log_failed_text, log_too_long_text, IsAnswer}
use Rattle.can_logs.specs.MapFaults.{map_fault_text, map_input_text}
use Rattle.watch_commands.specs.Limits.{limits_in}
use Rattle.watch_commands.proofs.Reading.{few_inputs}
use Rattle.watch_commands.specs.Words.{watch_usage, AsksWatch, text_asked}
use Rattle.watch_commands.specs.WatchedMaps.{WatchedMap}
use Rattle.can_logs.specs.WatchMaps.{watch_map_of}
use Rattle.watch_commands.specs.Watching.{Found, findings_of}
use Rattle.watch_commands.specs.WatchTotals.{counts_of, all_pass, log_passes}
use Rattle.watch_commands.specs.LogTotals.{totals_of, watch_status}
use Rattle.watch_commands.specs.WatchRows.{ReadsWatchMap, ComesOfLog, done, FailsOfLog, failed, too_long, Stops, FailsBoth, OverMap, ComesOnOutput, asked, of_log, ComesOnErrors, no_form, no_map, map_fault, no_log, EndsWatch}
use Rattle.watch_commands.specs.Watches.{AnswersLog, HoldsNothingBack, Watches}
use Rattle.watch_commands.proofs.PrintedRise.{rises}

-- ---- statuses

-- the status at the end of a log is 0, 1 or 3
two_tests : (a b : Bool) → IsAnswer (if a then 1 else if b then 0 else 3)
two_tests true b = inr (inl refl)
two_tests false true = inl refl
two_tests false false = inr (inr refl)

status_answers : (mapping : WatchedMap) (found : List Found) → IsAnswer (watch_status mapping found)
status_answers mapping found =
    two_tests (nat_lt 0 (counts_of (findings_of found)).failed)
    (all_pass mapping (totals_of mapping found) && log_passes (limits_in mapping.options) (counts_of (findings_of found)))

answer_few : (status : ℕ) → IsAnswer status → (status ≤ 3) × (¬ (status ≡ 2))
answer_few status (inl zero) = (omega (arith, zero), λ two. omega (arith, zero, two))
answer_few status (inr (inl one)) = (omega (arith, one), λ two. omega (arith, one, two))
answer_few status (inr (inr three)) = (omega (arith, three), λ two. omega (arith, three, two))

-- a status above 3 is none of an answer
above_3 : (status : ℕ) → 3 < status → ¬ IsAnswer status
above_3 status above = λ is. omega (arith, above, (answer_few status is).0)

-- ---- words

-- words that ask for a watch ask for no text
pub asks_no_text : (words : List (List ℕ)) (text : List ℕ) → AsksWatch words → text_asked words ≡ Some text → ⊥
asks_no_text [] text asks is = omega (arith, asks, few_inputs [])
asks_no_text (word ∷ []) text asks is = omega (arith, asks, few_inputs (word ∷ []))
asks_no_text (word ∷ next ∷ rest) text asks is = let clash : None ≡ Some text = is in cc

module _ (i : LogInputs) (e : WatchEnding) where
  -- ---- rows by their status

  of_log_status : (mapping : WatchedMap) (row : Row) → ComesOfLog mapping i.log row → IsAnswer row.status
  of_log_status mapping row (done log findings whole finds) = status_answers mapping findings

  output_status : (row : Row) → ComesOnOutput i row → IsAnswer row.status
  output_status row (asked text is map log) = inl refl
  output_status row (of_log _ (asks, (mapping, reads, comes))) = of_log_status mapping row comes

  fails_status : (mapping : WatchedMap) (row : Row) → FailsOfLog mapping i.log e.output row → (row.status ≡ 5) ⊎ (row.status ≡ 8)
  fails_status mapping row (failed bytes findings came finds fails written) = inl refl
  fails_status mapping row (too_long bytes findings came finds calm long written) = inr refl

  fails_not : (n : ℕ) (mapping : WatchedMap) (row : Row) → (¬ (n ≡ 5)) → (¬ (n ≡ 8)) → FailsOfLog mapping i.log e.output row → row.status ≡ n → ⊥
  fails_not n mapping row not_5 not_8 fails is = elim (fails_status mapping row fails) [
    | inl five ↦ not_5 (sym is ∙ five)
    | inr eight ↦ not_8 (sym is ∙ eight)
  ]

  -- what is printed at the status of a fault
  fault_at : EndsWatch i e → (n : ℕ) → (n == 6) ≡ false → (¬ IsAnswer n) → {A : Type 0}
      → ((row : Row) → ComesOnErrors i e.output row → row.status ≡ n → WritesWhole e.errors row.text → A) → e.status ≡ n → A
  fault_at (inl (ends, unwritten)) n other none each is =
      absurd (EndsInRow-at ends n other (λ row comes at prints. none (subst IsAnswer at (output_status row comes))) is)
  fault_at (inr (inl ((asks, (mapping, reads, stops)), unwritten))) n other none each is =
      let six : e.status ≡ 6 = stops.status_is in absurd (grind (arith, nat_tests, other, six, is))
  fault_at (inr (inr ends)) n other none each is = EndsInRow-at ends n other each is

  at_2 : (row : Row) → ComesOnErrors i e.output row → row.status ≡ 2 → WritesWhole e.errors row.text
      → (¬ AsksWatch i.words) × (text_asked i.words ≡ None) × IsUnread i.map × IsUnread i.log × IsUnwritten e.output × WritesWhole e.errors watch_usage
  at_2 row (no_form other no_text map log unwritten) two prints = (other, no_text, map, log, unwritten, prints)
  at_2 row (no_map input.ReadFault asks lacks unread unwritten) two prints = absurd (omega (arith, two))
  at_2 row (no_map input.TooLong asks lacks unread unwritten) two prints = absurd (omega (arith, two))
  at_2 row (no_map input.Memory asks lacks unread unwritten) two prints = absurd (omega (arith, two))
  at_2 row (map_fault fault asks is unread unwritten) two prints = absurd (omega (arith, two))
  at_2 row (no_log _ (asks, (mapping, reads, fails))) two prints = absurd (fails_not 2 mapping row (λ five. omega (arith, five)) (λ eight. omega (arith, eight)) fails two)

  at_4 : (row : Row) → ComesOnErrors i e.output row → row.status ≡ 4 → WritesWhole e.errors row.text
      → AsksWatch i.words × IsUnread i.log × IsUnwritten e.output × ((fault : Fault) × IsWatchMapFault i.map fault × WritesWhole e.errors (map_fault_text fault))
  at_4 row (no_form other no_text map log unwritten) four prints = absurd (omega (arith, four))
  at_4 row (no_map input.ReadFault asks lacks unread unwritten) four prints = absurd (omega (arith, four))
  at_4 row (no_map input.TooLong asks lacks unread unwritten) four prints = absurd (omega (arith, four))
  at_4 row (no_map input.Memory asks lacks unread unwritten) four prints = absurd (omega (arith, four))
  at_4 row (map_fault fault asks is unread unwritten) four prints = (asks, unread, unwritten, (fault, is, prints))
  at_4 row (no_log _ (asks, (mapping, reads, fails))) four prints = absurd (fails_not 4 mapping row (λ five. omega (arith, five)) (λ eight. omega (arith, eight)) fails four)

  abbrev AtFive : Type 0
  AtFive = AsksWatch i.words
      × ((SourceFailed i.map × IsUnread i.log × IsUnwritten e.output × WritesWhole e.errors (map_input_text input.ReadFault))
      ⊎ (SourceFailed i.log × HoldsNothingBack i e (λ bytes. Unit {0}) × WritesWhole e.errors log_failed_text))

  fails_at_5 : AsksWatch i.words → (mapping : WatchedMap) → ReadsWatchMap i mapping → (row : Row) → FailsOfLog mapping i.log e.output row → row.status ≡ 5
      → WritesWhole e.errors row.text → AtFive
  fails_at_5 asks mapping reads row (failed bytes findings came finds fails written) five prints =
      (asks, inr (fails, (asks, (mapping, reads, (bytes, findings, came, tt, finds, written))), prints))
  fails_at_5 asks mapping reads row (too_long bytes findings came finds calm long written) five prints = absurd (omega (arith, five))

  at_5 : (row : Row) → ComesOnErrors i e.output row → row.status ≡ 5 → WritesWhole e.errors row.text → AtFive
  at_5 row (no_form other no_text map log unwritten) five prints = absurd (omega (arith, five))
  at_5 row (no_map input.ReadFault asks lacks unread unwritten) five prints = (asks, inl (lacks.0, unread, unwritten, prints))
  at_5 row (no_map input.TooLong asks lacks unread unwritten) five prints = absurd (omega (arith, five))
  at_5 row (no_map input.Memory asks lacks unread unwritten) five prints = absurd (omega (arith, five))
  at_5 row (map_fault fault asks is unread unwritten) five prints = absurd (omega (arith, five))
  at_5 row (no_log _ (asks, (mapping, reads, fails))) five prints = fails_at_5 asks mapping reads row fails five prints

  at_7 : (row : Row) → ComesOnErrors i e.output row → row.status ≡ 7 → WritesWhole e.errors row.text
      → AsksWatch i.words × Lacks i.map input.Memory × IsUnread i.log × IsUnwritten e.output × WritesWhole e.errors []
  at_7 row (no_form other no_text map log unwritten) seven prints = absurd (omega (arith, seven))
  at_7 row (no_map input.ReadFault asks lacks unread unwritten) seven prints = absurd (omega (arith, seven))
  at_7 row (no_map input.TooLong asks lacks unread unwritten) seven prints = absurd (omega (arith, seven))
  at_7 row (no_map input.Memory asks lacks unread unwritten) seven prints = (asks, lacks, unread, unwritten, prints)
  at_7 row (map_fault fault asks is unread unwritten) seven prints = absurd (omega (arith, seven))
  at_7 row (no_log _ (asks, (mapping, reads, fails))) seven prints = absurd (fails_not 7 mapping row (λ five. omega (arith, five)) (λ eight. omega (arith, eight)) fails seven)

  abbrev AtEight : Type 0
  AtEight = AsksWatch i.words
      × ((GivesTooMuch i.map × IsUnread i.log × IsUnwritten e.output × WritesWhole e.errors (map_input_text input.TooLong))
      ⊎ (HoldsNothingBack i e (λ bytes. last_count ≤ length bytes) × WritesWhole e.errors log_too_long_text))

  fails_at_8 : AsksWatch i.words → (mapping : WatchedMap) → ReadsWatchMap i mapping → (row : Row) → FailsOfLog mapping i.log e.output row → row.status ≡ 8
      → WritesWhole e.errors row.text → AtEight
  fails_at_8 asks mapping reads row (failed bytes findings came finds fails written) eight prints = absurd (omega (arith, eight))
  fails_at_8 asks mapping reads row (too_long bytes findings came finds calm long written) eight prints =
      (asks, inr ((asks, (mapping, reads, (bytes, findings, came, long, finds, written))), prints))

  at_8 : (row : Row) → ComesOnErrors i e.output row → row.status ≡ 8 → WritesWhole e.errors row.text → AtEight
  at_8 row (no_form other no_text map log unwritten) eight prints = absurd (omega (arith, eight))
  at_8 row (no_map input.ReadFault asks lacks unread unwritten) eight prints = absurd (omega (arith, eight))
  at_8 row (no_map input.TooLong asks lacks unread unwritten) eight prints = (asks, inl (lacks.1, unread, unwritten, prints))
  at_8 row (no_map input.Memory asks lacks unread unwritten) eight prints = absurd (omega (arith, eight))
  at_8 row (map_fault fault asks is unread unwritten) eight prints = absurd (omega (arith, eight))
  at_8 row (no_log _ (asks, (mapping, reads, fails))) eight prints = fails_at_8 asks mapping reads row fails eight prints

  output_never_6 : (row : Row) → ComesOnOutput i row → ¬ (row.status ≡ 6)
  output_never_6 row comes = λ six. omega (arith, six, (answer_few row.status (output_status row comes)).0)

  errors_never_6 : (row : Row) → ComesOnErrors i e.output row → ¬ (row.status ≡ 6)
  errors_never_6 row (no_form other no_text map log unwritten) = λ six. omega (arith, six)
  errors_never_6 row (no_map input.ReadFault asks lacks unread unwritten) = λ six. omega (arith, six)
  errors_never_6 row (no_map input.TooLong asks lacks unread unwritten) = λ six. omega (arith, six)
  errors_never_6 row (no_map input.Memory asks lacks unread unwritten) = λ six. omega (arith, six)
  errors_never_6 row (map_fault fault asks is unread unwritten) = λ six. omega (arith, six)
  errors_never_6 row (no_log _ (asks, (mapping, reads, fails))) = λ six. fails_not 6 mapping row (λ five. omega (arith, five)) (λ eight. omega (arith, eight)) fails six

  errors_no_answer : (row : Row) → ComesOnErrors i e.output row → ¬ IsAnswer row.status
  errors_no_answer row (no_form other no_text map log unwritten) = λ is. (answer_few 2 is).1 refl
  errors_no_answer row (no_map input.ReadFault asks lacks unread unwritten) = above_3 5 (omega arith)
  errors_no_answer row (no_map input.TooLong asks lacks unread unwritten) = above_3 8 (omega arith)
  errors_no_answer row (no_map input.Memory asks lacks unread unwritten) = above_3 7 (omega arith)
  errors_no_answer row (map_fault fault asks is unread unwritten) = above_3 4 (omega arith)
  errors_no_answer row (no_log _ (asks, (mapping, reads, fails))) = elim (fails_status mapping row fails) [
    | inl five ↦ above_3 row.status (omega (arith, five))
    | inr eight ↦ above_3 row.status (omega (arith, eight))
  ]

  -- ---- which rows come

  unread_faults : (r : Reading) → IsUnread r → r.before.faults < r.after.faults → ⊥
  unread_faults r unread counts = omega (arith, counts, ap (λ (s : SourceState). s.faults) unread)

  unwritten_faults : (before after : SinkState) → after ≡ before → before.faults < after.faults → ⊥
  unwritten_faults before after unwritten counts = omega (arith, counts, ap (λ (s : SinkState). s.faults) unwritten)

  ok_is_err : (m : List MapLine) (f : Fault) (read text : List ℕ) → read ≡ text → watch_map_of read ≡ Ok m → watch_map_of text ≡ Err f → ⊥
  ok_is_err m f read text same ok err = let clash : Ok m ≡ Err f = sym ok ∙ ap watch_map_of same ∙ err in cc

  -- a map that was read whole has no fault
  map_is_err : (text : List ℕ) (fault : Fault) → Offers i.map text → watch_map_of text ≡ Err fault → (mapping : WatchedMap) → ReadsWatchMap i mapping → ⊥
  map_is_err text fault offers is mapping (read, whole, read_is) =
      ok_is_err mapping.lines fault read text (Offers-whole i.map text read offers whole) read_is.0 is

  only_2 : ¬ AsksWatch i.words → (row : Row) → ComesOnErrors i e.output row → row.status ≡ 2
  only_2 other row (no_form free no_text map log unwritten) = refl
  only_2 other row (no_map fault asks lacks unread unwritten) = absurd (other asks)
  only_2 other row (map_fault fault asks is unread unwritten) = absurd (other asks)
  only_2 other row (no_log _ (asks, over)) = absurd (other asks)

  only_4 : (text : List ℕ) (fault : Fault) → AsksWatch i.words → Offers i.map text → watch_map_of text ≡ Err fault → (row : Row) → ComesOnErrors i e.output row
      → (row.status ≡ 4) ⊎ (row.status ≡ 7)
  only_4 text fault names offers is row (no_form other no_text map log unwritten) = absurd (other names)
  only_4 text fault names offers is row (no_map lack asks lacks unread unwritten) = inr (ap input_fault_status (Offers-is i.map text lack offers lacks))
  only_4 text fault names offers is row (map_fault first asks first_is unread unwritten) = inl refl
  only_4 text fault names offers is row (no_log _ (asks, (mapping, reads, fails))) = absurd (map_is_err text fault offers is mapping reads)

  map_faults : CountsFault i.map → (row : Row) → ComesOnErrors i e.output row → row.status ≡ 5
  map_faults counts row (no_form other no_text map log unwritten) = absurd (unread_faults i.map map counts)
  map_faults counts row (no_map fault asks lacks unread unwritten) = ap input_fault_status (CountsFault-is i.map fault counts lacks)
  map_faults counts row (map_fault fault asks (text, whole, is) unread unwritten) = absurd (omega (arith, counts, whole.no_fault))
  map_faults counts row (no_log _ (asks, (mapping, (text, whole, is), fails))) = absurd (omega (arith, counts, whole.no_fault))

  fails_log_faults : CountsFault i.log → (mapping : WatchedMap) (row : Row) → FailsOfLog mapping i.log e.output row → row.status ≡ 5
  fails_log_faults counts mapping row (failed bytes findings came finds fails written) = refl
  fails_log_faults counts mapping row (too_long bytes findings came finds calm long written) = absurd (omega (arith, counts, calm))

  log_faults : CountsFault i.log → (row : Row) → ComesOnErrors i e.output row → row.status ≡ 5
  log_faults counts row (no_form other no_text map log unwritten) = absurd (unread_faults i.log log counts)
  log_faults counts row (no_map fault asks lacks unread unwritten) = absurd (unread_faults i.log unread counts)
  log_faults counts row (map_fault fault asks is unread unwritten) = absurd (unread_faults i.log unread counts)
  log_faults counts row (no_log _ (asks, (mapping, reads, fails))) = fails_log_faults counts mapping row fails

  -- nothing on standard output is told beside a source's fault
  output_map_calm : CountsFault i.map → (row : Row) → ComesOnOutput i row → ⊥
  output_map_calm counts row (asked text is map log) = unread_faults i.map map counts
  output_map_calm counts row (of_log _ (asks, (mapping, (text, whole, is), comes))) = omega (arith, counts, whole.no_fault)

  of_log_calm : CountsFault i.log → (mapping : WatchedMap) (row : Row) → ComesOfLog mapping i.log row → ⊥
  of_log_calm counts mapping row (done bytes findings whole finds) = omega (arith, counts, whole.no_fault)

  output_log_calm : CountsFault i.log → (row : Row) → ComesOnOutput i row → ⊥
  output_log_calm counts row (asked text is map log) = unread_faults i.log log counts
  output_log_calm counts row (of_log _ (asks, (mapping, reads, comes))) = of_log_calm counts mapping row comes

  whole_not_long : (text : List ℕ) → CountsTooMuch i.map → ReadsWhole i.map text → ⊥
  whole_not_long text counts whole =
      let clash : input.Memory ≡ input.TooLong = CountsTooMuch-is i.map input.Memory counts (Lacks-whole i.map text whole) in cc

  unread_not_long : CountsTooMuch i.map → IsUnread i.map → ⊥
  unread_not_long counts map = omega (arith, counts.1, ap (λ (s : SourceState). s.taken) map)

  only_8 : CountsTooMuch i.map → (row : Row) → ComesOnErrors i e.output row → row.status ≡ 8
  only_8 counts row (no_form other no_text map log unwritten) = absurd (unread_not_long counts map)
  only_8 counts row (no_map fault asks lacks unread unwritten) = ap input_fault_status (CountsTooMuch-is i.map fault counts lacks)
  only_8 counts row (map_fault fault asks (text, whole, is) unread unwritten) = absurd (whole_not_long text counts whole)
  only_8 counts row (no_log _ (asks, (mapping, (text, whole, is), fails))) = absurd (whole_not_long text counts whole)

  output_not_long : CountsTooMuch i.map → (row : Row) → ComesOnOutput i row → ⊥
  output_not_long counts row (asked text is map log) = unread_not_long counts map
  output_not_long counts row (of_log _ (asks, (mapping, (text, whole, is), comes))) = whole_not_long text counts whole

  few_came : (bytes : List ℕ) → Came i.log.before i.log.after bytes → last_count ≤ length bytes → i.log.after.taken < last_count → ⊥
  few_came bytes came long few = omega (arith, came.counted, long, few)

  fails_not_valid : ¬ SourceFailed i.log → i.log.after.taken < last_count → (mapping : WatchedMap) (row : Row) → FailsOfLog mapping i.log e.output row → ⊥
  fails_not_valid calm few mapping row (failed bytes findings came finds fails written) = calm fails
  fails_not_valid calm few mapping row (too_long bytes findings came finds still long written) = few_came bytes came long few

  completes : (text : List ℕ) (mapping : List MapLine) → AsksWatch i.words → Offers i.map text → watch_map_of text ≡ Ok mapping
      → ¬ SourceFailed i.log → i.log.after.taken < last_count → (row : Row) → ComesOnErrors i e.output row → row.status ≡ 7
  completes text mapping names offers is calm few row (no_form other no_text map log unwritten) = absurd (other names)
  completes text mapping names offers is calm few row (no_map lack asks lacks unread unwritten) = ap input_fault_status (Offers-is i.map text lack offers lacks)
  completes text mapping names offers is calm few row (map_fault fault asks (read, whole, read_is) unread unwritten) =
      let same : text ≡ read = sym (Offers-whole i.map text read offers whole) in absurd (ok_is_err mapping fault text read same is read_is)
  completes text mapping names offers is calm few row (no_log _ (asks, (m, reads, fails))) = absurd (fails_not_valid calm few m row fails)

  fails_calm : (mapping : WatchedMap) (row : Row) → FailsOfLog mapping i.log e.output row → e.output.after.faults ≡ e.output.before.faults
  fails_calm mapping row (failed bytes findings came finds fails written) = written.0
  fails_calm mapping row (too_long bytes findings came finds calm long written) = written.0

  -- standard output doesn't fail beside a row on standard error
  errors_calm : (row : Row) → ComesOnErrors i e.output row → e.output.after.faults ≡ e.output.before.faults
  errors_calm row (no_form other no_text map log unwritten) = ap (λ (s : SinkState). s.faults) unwritten
  errors_calm row (no_map fault asks lacks unread unwritten) = ap (λ (s : SinkState). s.faults) unwritten
  errors_calm row (map_fault fault asks is unread unwritten) = ap (λ (s : SinkState). s.faults) unwritten
  errors_calm row (no_log _ (asks, (mapping, reads, fails))) = fails_calm mapping row fails

  -- ---- the promises

  -- the text of `--help` and `--version`
  abbrev Told : List ℕ → Type 0
  Told text = IsUnread i.map × IsUnread i.log × IsUnwritten e.errors × EndingTold e.output.before e.output.after text 0 e.status

  told_row : (text : List ℕ) → text_asked i.words ≡ Some text → IsUnwritten e.errors → (row : Row) → ComesOnOutput i row
      → EndingTold e.output.before e.output.after row.text row.status e.status → Told text
  told_row text is unwritten row (asked other other_is map log) told =
      (map, log, unwritten, subst (λ t. EndingTold e.output.before e.output.after t 0 e.status) (same_Some other text (sym other_is ∙ is)) told)
  told_row text is unwritten row (of_log _ (asks, over)) told = absurd (asks_no_text i.words text asks is)

  not_told : (text : List ℕ) → text_asked i.words ≡ Some text → (row : Row) → ComesOnErrors i e.output row → ⊥
  not_told text is row (no_form other no_text map log unwritten) = let clash : None ≡ Some text = sym no_text ∙ is in cc
  not_told text is row (no_map fault asks lacks unread unwritten) = asks_no_text i.words text asks is
  not_told text is row (map_fault fault asks is_fault unread unwritten) = asks_no_text i.words text asks is
  not_told text is row (no_log _ (asks, over)) = asks_no_text i.words text asks is

  ends_told : EndsWatch i e → (text : List ℕ) → text_asked i.words ≡ Some text → Told text
  ends_told (inl (ends, unwritten)) text is = told_row text is unwritten ends.row ends.comes ends.told
  ends_told (inr (inl ((asks, over), unwritten))) text is = absurd (asks_no_text i.words text asks is)
  ends_told (inr (inr ends)) text is = absurd (not_told text is ends.row ends.comes)

  of_log_answers : AsksWatch i.words → IsUnwritten e.errors → (mapping : WatchedMap) → ReadsWatchMap i mapping → (row : Row) → ComesOfLog mapping i.log row
      → e.status ≡ row.status → WritesWhole e.output row.text → AnswersLog i e
  of_log_answers asks unwritten mapping reads row (done log findings whole finds) same prints =
      (asks, (mapping, reads, (log, findings, whole, finds, same, prints, unwritten)))

  answers_row : AsksWatch i.words → IsUnwritten e.errors → (row : Row) → ComesOnOutput i row → e.status ≡ row.status → WritesWhole e.output row.text → AnswersLog i e
  answers_row asks unwritten row (asked text is map log) same prints = absurd (asks_no_text i.words text asks is)
  answers_row asks unwritten row (of_log _ (names, (mapping, reads, comes))) same prints = of_log_answers names unwritten mapping reads row comes same prints

  answers_at : AsksWatch i.words → IsUnwritten e.errors → EndsInRow (ComesOnOutput i) (on_output e) → (n : ℕ) → (n == 6) ≡ false → e.status ≡ n → AnswersLog i e
  answers_at asks unwritten ends n other is = EndsInRow-at ends n other (λ row comes at prints. answers_row asks unwritten row comes (is ∙ sym at) prints) is

  no_answer_at : EndsInRow (ComesOnErrors i e.output) (on_errors e) → (n : ℕ) → (n == 6) ≡ false → IsAnswer n → e.status ≡ n → ⊥
  no_answer_at ends n other answer is = EndsInRow-at ends n other (λ row comes at prints. errors_no_answer row comes (subst IsAnswer (sym at) answer)) is

  no_answer : EndsInRow (ComesOnErrors i e.output) (on_errors e) → IsAnswer e.status → ⊥
  no_answer ends (inl zero) = no_answer_at ends 0 refl (inl refl) zero
  no_answer ends (inr (inl one)) = no_answer_at ends 1 refl (inr (inl refl)) one
  no_answer ends (inr (inr three)) = no_answer_at ends 3 refl (inr (inr refl)) three

  ends_answered : EndsWatch i e → AsksWatch i.words → IsAnswer e.status → AnswersLog i e
  ends_answered (inl (ends, unwritten)) asks (inl zero) = answers_at asks unwritten ends 0 refl zero
  ends_answered (inl (ends, unwritten)) asks (inr (inl one)) = answers_at asks unwritten ends 1 refl one
  ends_answered (inl (ends, unwritten)) asks (inr (inr three)) = answers_at asks unwritten ends 3 refl three
  ends_answered (inr (inl ((names, (mapping, reads, stops)), unwritten))) asks is =
      let six : e.status ≡ 6 = stops.status_is in absurd (omega (arith, six, (answer_few e.status is).0))
  ends_answered (inr (inr ends)) asks is = absurd (no_answer ends is)

  output_asks : ¬ AsksWatch i.words → text_asked i.words ≡ None → (row : Row) → ComesOnOutput i row → ⊥
  output_asks other no_text row (asked text is map log) = let clash : None ≡ Some text = sym no_text ∙ is in cc
  output_asks other no_text row (of_log _ (asks, over)) = other asks

  ends_usage : EndsWatch i e → ¬ AsksWatch i.words → text_asked i.words ≡ None → EndsIn 2 (on_errors e)
  ends_usage (inl (ends, unwritten)) other no_text = absurd (output_asks other no_text ends.row ends.comes)
  ends_usage (inr (inl ((asks, over), unwritten))) other no_text = absurd (other asks)
  ends_usage (inr (inr ends)) other no_text = EndsInRow-only ends 2 (only_2 other)

  output_refuses : (text : List ℕ) (fault : Fault) → AsksWatch i.words → Offers i.map text → watch_map_of text ≡ Err fault → (row : Row) → ComesOnOutput i row → ⊥
  output_refuses text fault names offers is row (asked words_text words_is map log) = asks_no_text i.words words_text names words_is
  output_refuses text fault names offers is row (of_log _ (asks, (mapping, reads, comes))) = map_is_err text fault offers is mapping reads

  ends_refused : EndsWatch i e → (text : List ℕ) (fault : Fault) → AsksWatch i.words → Offers i.map text → watch_map_of text ≡ Err fault → MayEndIn 4 (on_errors e)
  ends_refused (inl (ends, unwritten)) text fault names offers is = absurd (output_refuses text fault names offers is ends.row ends.comes)
  ends_refused (inr (inl ((asks, (mapping, reads, stops)), unwritten))) text fault names offers is = absurd (map_is_err text fault offers is mapping reads)
  ends_refused (inr (inr ends)) text fault names offers is = EndsInRow-may ends 4 (only_4 text fault names offers is)

  ends_read_fault : EndsWatch i e → CountsFault i.map ⊎ CountsFault i.log → EndsIn 5 (on_errors e)
  ends_read_fault (inl (ends, unwritten)) (inl map) = absurd (output_map_calm map ends.row ends.comes)
  ends_read_fault (inl (ends, unwritten)) (inr log) = absurd (output_log_calm log ends.row ends.comes)
  ends_read_fault (inr (inl ((asks, (mapping, reads, stops)), unwritten))) counts = inr stops.status_is
  ends_read_fault (inr (inr ends)) (inl map) = EndsInRow-only ends 5 (map_faults map)
  ends_read_fault (inr (inr ends)) (inr log) = EndsInRow-only ends 5 (log_faults log)

  abbrev AtSix : Type 0
  AtSix = (SinkFailed (on_output e) × (PrintsFront (ComesOnOutput i) (on_output e) ⊎ OverMap i (λ mapping. Stops mapping i.log (on_output e))))
      ⊎ (SinkFailed (on_errors e) × PrintsFront (ComesOnErrors i e.output) (on_errors e))

  ends_write_fault : EndsWatch i e → e.status ≡ 6 → AtSix
  ends_write_fault (inl (ends, unwritten)) six = let (fails, front) = EndsInRow-front ends output_never_6 six in inl (fails, inl front)
  ends_write_fault (inr (inl ((asks, (mapping, reads, stops)), unwritten))) six = inl (stops.fails, inr (asks, (mapping, reads, stops)))
  ends_write_fault (inr (inr ends)) six = inr (EndsInRow-front ends errors_never_6 six)

  ends_counts : EndsWatch i e → CountsWriteFault (on_output e) ⊎ CountsWriteFault (on_errors e) → e.status ≡ 6
  ends_counts (inl (ends, unwritten)) (inl output) = EndsInRow-rose ends output
  ends_counts (inl (ends, unwritten)) (inr errors) = absurd (unwritten_faults e.errors.before e.errors.after unwritten errors)
  ends_counts (inr (inl ((asks, (mapping, reads, stops)), unwritten))) counts = stops.status_is
  ends_counts (inr (inr ends)) (inl output) =
      let rose : e.output.before.faults < e.output.after.faults = output in absurd (omega (arith, rose, errors_calm ends.row ends.comes))
  ends_counts (inr (inr ends)) (inr errors) = EndsInRow-rose ends errors

  fails_both : AsksWatch i.words → (mapping : WatchedMap) → ReadsWatchMap i mapping → CountsFault i.log → (row : Row) → FailsOfLog mapping i.log e.output row
      → EndingTold e.errors.before e.errors.after row.text row.status e.status → e.status ≡ 6 → OverMap i (λ m. FailsBoth m i.log e)
  fails_both asks mapping reads counts row (failed bytes findings came finds fails written) (inl (is, told)) six = absurd (omega (arith, is, six))
  fails_both asks mapping reads counts row (failed bytes findings came finds fails written) (inr (is, rose, part)) six =
      (asks, (mapping, reads, record { bytes = bytes; findings = findings; came = came; finds = finds; output = written; errors = part }))
  fails_both asks mapping reads counts row (too_long bytes findings came finds calm long written) told six = absurd (omega (arith, counts, calm))

  row_fails_both : CountsFault i.log → (row : Row) → ComesOnErrors i e.output row
      → EndingTold e.errors.before e.errors.after row.text row.status e.status → e.status ≡ 6 → OverMap i (λ m. FailsBoth m i.log e)
  row_fails_both counts row (no_form other no_text map log unwritten) told six = absurd (unread_faults i.log log counts)
  row_fails_both counts row (no_map fault asks lacks unread unwritten) told six = absurd (unread_faults i.log unread counts)
  row_fails_both counts row (map_fault fault asks is unread unwritten) told six = absurd (unread_faults i.log unread counts)
  row_fails_both counts row (no_log _ (asks, (mapping, reads, fails))) told six = fails_both asks mapping reads counts row fails told six

  ends_log_first : EndsWatch i e → e.status ≡ 6 → CountsFault i.log → OverMap i (λ m. FailsBoth m i.log e)
  ends_log_first (inl (ends, unwritten)) six counts = absurd (output_log_calm counts ends.row ends.comes)
  ends_log_first (inr (inl ((asks, (mapping, reads, stops)), unwritten))) six counts = absurd (omega (arith, counts, stops.calm))
  ends_log_first (inr (inr ends)) six counts = row_fails_both counts ends.row ends.comes ends.told six

  ends_too_long : EndsWatch i e → CountsTooMuch i.map → EndsIn 8 (on_errors e)
  ends_too_long (inl (ends, unwritten)) counts = absurd (output_not_long counts ends.row ends.comes)
  ends_too_long (inr (inl ((asks, (mapping, reads, stops)), unwritten))) counts = inr stops.status_is
  ends_too_long (inr (inr ends)) counts = EndsInRow-only ends 8 (only_8 counts)

  ends_complete : EndsWatch i e → (text : List ℕ) (mapping : List MapLine) → AsksWatch i.words → Offers i.map text → watch_map_of text ≡ Ok mapping
      → ¬ SourceFailed i.log → i.log.after.taken < last_count → ¬ SinkFailed (on_output e) → ¬ SinkFailed (on_errors e) → IsAnswer e.status ⊎ (e.status ≡ 7)
  ends_complete (inl (ends, unwritten)) text mapping names offers is calm few well well_errors =
      let (row, comes, status_is, prints) = EndsInRow-well ends well in inl (subst IsAnswer (sym status_is) (output_status row comes))
  ends_complete (inr (inl ((asks, (m, reads, stops)), unwritten))) text mapping names offers is calm few well well_errors = absurd (well stops.fails)
  ends_complete (inr (inr ends)) text mapping names offers is calm few well well_errors =
      let (row, comes, status_is, prints) = EndsInRow-well ends well_errors in inr (status_is ∙ completes text mapping names offers is calm few row comes)

  pub Watches-ends : EndsWatch i e → Watches i e
  Watches-ends ends = record {
    ends = ends;
    told = ends_told ends;
    answered = ends_answered ends;
    rising = rises i e ends;
    usage = fault_at ends 2 refl (λ is. (answer_few 2 is).1 refl) at_2;
    usage_only = ends_usage ends;
    refused = fault_at ends 4 refl (above_3 4 (omega arith)) at_4;
    refused_only = ends_refused ends;
    nothing_held_back = fault_at ends 5 refl (above_3 5 (omega arith)) at_5;
    read_fault_only = ends_read_fault ends;
    write_fault = ends_write_fault ends;
    write_fault_only = ends_counts ends;
    log_fails_first = ends_log_first ends;
    no_memory = fault_at ends 7 refl (above_3 7 (omega arith)) at_7;
    too_long = fault_at ends 8 refl (above_3 8 (omega arith)) at_8;
    too_long_only = ends_too_long ends;
    complete = ends_complete ends;
  }
