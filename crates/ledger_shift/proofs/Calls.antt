-- The calls of a shift are a run of the file
use Rattle.std.proofs.Common.{◌≡◌, inl, inr, ℕ, Bool, true, false, ◌+◌, None, Some, List, [], ◌∷◌, ◌++◌, Ok, refl, sym, ap, subst, arith}
use Rattle.machine_runs.specs.Run.{Run}
use Rattle.machine_runs.proofs.CallerLemmas.{Run-append}
use Rattle.program_edge.specs.Told.{AppendedWell}
use Rattle.key_campaign.specs.declared.commands.Issue.{Issue}
use Rattle.key_campaign.specs.declared.commands.Confirm.{Confirm}
use Rattle.line_stream.specs.Pieces.{in_64_bits}
use Rattle.line_stream.specs.Streams.{TakesLines, kept_of}
use Rattle.sqlite_trees.specs.declared.store.Store.{Ghosts}
use Rattle.sqlite.specs.State.{HasCleanDisk}
use Rattle.sqlite.specs.Effect.{Database}
use Rattle.ledger_rows.specs.declared.lists.ListKind.{ListKind}
use Rattle.ledger_rows.specs.declared.remarks.Remark.{Remark}
use Rattle.ledger_rows.specs.Files.{FileMoment, FileStep, FilesCountersRise, IssueBy, ConfirmBy, RemarkBy}
use Rattle.ledger_tables.specs.Held.{ledger_of}
use Rattle.ledger_shift.specs.declared.line.ShiftLine.{ShiftLine}
use Rattle.ledger_shift.specs.declared.line.ShiftLine.TheVariants as ask
use Rattle.ledger_shift.specs.declared.told.ShiftTold.{ShiftTold}
use Rattle.ledger_shift.specs.declared.told.ShiftTold.TheVariants as told
use Rattle.ledger_shift.specs.Told.{shift_answer_text}
use Rattle.ledger_shift.specs.Answers.{AnswersAsk}
use Rattle.ledger_shift.specs.Shifts.{ShiftAt, conn_of, printed_line_number, ServesCommand, ServesNamed, ServesAsk, TakesShiftLine}
use Rattle.ledger_shift.specs.Laws.{counter_told, rows_of, IsCallOf, AreCallsOf, ShiftsAreRuns}

module _ {S : Type 0} (g : Ghosts S) where
  abbrev pub IsClean : ShiftAt S → Type 0
  IsClean s = HasCleanDisk (conn_of g s)

  -- a line's calls
  abbrev pub Calls : ShiftAt S → ℕ → ShiftAt S → Type 0
  Calls before number after = (here : List FileMoment) × IsCallOf g before number after here × Run FileStep (rows_of g before) here (rows_of g after)

  none_of : (before after : ShiftAt S) (number : ℕ) → rows_of g after ≡ rows_of g before → Calls before number after
  none_of before after number same = ([], same, same)

  one_of : (before after : ShiftAt S) (number : ℕ) (m : FileMoment) (it : ShiftTold) → m.line ≡ counter_told it → m.after ≡ rows_of g after
      → FileStep (rows_of g before) m.command m.line m.after → AppendedWell before.sink after.sink (shift_answer_text (printed_line_number number) it) → Calls before number after
  one_of before after number m it line_is after_is step wrote = (m ∷ [], (it, line_is, after_is, step, wrote), (step, sym after_is))

  pub same_rows : (before after : ShiftAt S) → (conn_of g after).now ≡ (conn_of g before).now → rows_of g after ≡ rows_of g before
  same_rows before after same = ap (λ (d : Database). ledger_of (d.trees 0)) same

  issue_calls : (before after : ShiftAt S) (number : ℕ) (i : Issue) (it : ShiftTold) → AnswersAsk before.origin (conn_of g before) (conn_of g after) (ask.Issue i) it
      → AppendedWell before.sink after.sink (shift_answer_text (printed_line_number number) it) → Calls before number after
  issue_calls before after number i (told.Issued counter request) does wrote =
      one_of before after number (record { command = IssueBy i before.origin; line = Some counter; after = rows_of g after }) (told.Issued counter request) refl refl does.0 wrote
  issue_calls before after number i (told.Refused why) does wrote =
      one_of before after number (record { command = IssueBy i before.origin; line = None; after = rows_of g after }) (told.Refused why) refl refl (inl (same_rows before after does.1)) wrote
  issue_calls before after number i (told.Confirmed counter) does wrote = absurd does
  issue_calls before after number i (told.Shown it) does wrote = absurd does
  issue_calls before after number i (told.Remarked kind counter) does wrote = absurd does
  issue_calls before after number i (told.Unremarked why) does wrote = absurd does
  issue_calls before after number i (told.Listed rows) does wrote = absurd does

  confirm_calls : (before after : ShiftAt S) (number : ℕ) (k : Confirm) (it : ShiftTold) → AnswersAsk before.origin (conn_of g before) (conn_of g after) (ask.Confirm k) it
      → AppendedWell before.sink after.sink (shift_answer_text (printed_line_number number) it) → Calls before number after
  confirm_calls before after number k (told.Confirmed counter) does wrote =
      one_of before after number (record { command = ConfirmBy k before.origin; line = Some counter; after = rows_of g after }) (told.Confirmed counter) refl refl does.0 wrote
  confirm_calls before after number k (told.Refused why) does wrote =
      one_of before after number (record { command = ConfirmBy k before.origin; line = None; after = rows_of g after }) (told.Refused why) refl refl (inl (same_rows before after does.1)) wrote
  confirm_calls before after number k (told.Issued counter request) does wrote = absurd does
  confirm_calls before after number k (told.Shown it) does wrote = absurd does
  confirm_calls before after number k (told.Remarked kind counter) does wrote = absurd does
  confirm_calls before after number k (told.Unremarked why) does wrote = absurd does
  confirm_calls before after number k (told.Listed rows) does wrote = absurd does

  remark_calls : (before after : ShiftAt S) (number : ℕ) (r : Remark) (it : ShiftTold) → AnswersAsk before.origin (conn_of g before) (conn_of g after) (ask.Remark r) it
      → AppendedWell before.sink after.sink (shift_answer_text (printed_line_number number) it) → Calls before number after
  remark_calls before after number r (told.Remarked kind counter) does wrote =
      one_of before after number (record { command = RemarkBy r before.origin; line = Some counter; after = rows_of g after }) (told.Remarked kind counter) refl refl does.1 wrote
  remark_calls before after number r (told.Unremarked why) does wrote =
      one_of before after number (record { command = RemarkBy r before.origin; line = None; after = rows_of g after }) (told.Unremarked why) refl refl (inl (same_rows before after does.1)) wrote
  remark_calls before after number r (told.Issued counter request) does wrote = absurd does
  remark_calls before after number r (told.Confirmed counter) does wrote = absurd does
  remark_calls before after number r (told.Shown it) does wrote = absurd does
  remark_calls before after number r (told.Refused why) does wrote = absurd does
  remark_calls before after number r (told.Listed rows) does wrote = absurd does

  show_calls : (before after : ShiftAt S) (number : ℕ) (uid : List ℕ) (id : ℕ) (it : ShiftTold) → AnswersAsk before.origin (conn_of g before) (conn_of g after) (ask.Show uid id) it → Calls before number after
  show_calls before after number uid id (told.Shown it) does = none_of before after number (same_rows before after does.1)
  show_calls before after number uid id (told.Issued counter request) does = absurd does
  show_calls before after number uid id (told.Confirmed counter) does = absurd does
  show_calls before after number uid id (told.Remarked kind counter) does = absurd does
  show_calls before after number uid id (told.Unremarked why) does = absurd does
  show_calls before after number uid id (told.Refused why) does = absurd does
  show_calls before after number uid id (told.Listed rows) does = absurd does

  list_calls : (before after : ShiftAt S) (number : ℕ) (kind : ListKind) (uid : List ℕ) (id : ℕ) (it : ShiftTold) → AnswersAsk before.origin (conn_of g before) (conn_of g after) (ask.List kind uid id) it → Calls before number after
  list_calls before after number kind uid id (told.Listed rows) does = none_of before after number (same_rows before after does.1)
  list_calls before after number kind uid id (told.Issued counter request) does = absurd does
  list_calls before after number kind uid id (told.Confirmed counter) does = absurd does
  list_calls before after number kind uid id (told.Shown it) does = absurd does
  list_calls before after number kind uid id (told.Refused why) does = absurd does
  list_calls before after number kind uid id (told.Remarked said counter) does = absurd does
  list_calls before after number kind uid id (told.Unremarked why) does = absurd does

  abbrev pub Earlier : ShiftAt S → ℕ → ShiftAt S → Type 0
  Earlier before number after = IsClean before × Calls before number after

  -- a line that asked for a row, and was taken, came after a name
  pub was_named : (named : Bool) (before after : ShiftAt S) (number : ℕ) (asked : ShiftLine) → ServesNamed g named before number asked after (Ok tt) → ServesCommand g before number asked after (Ok tt)
  was_named true before after number asked serves = serves
  was_named false before after number asked (same, is) = absurd (let e = is in cc)

  by_asked : (before after : ShiftAt S) (number : ℕ) (asked : ShiftLine) → ServesAsk g before (printed_line_number number) asked after (Ok tt) → IsClean after → Earlier before number after
  by_asked before after number ask.Skipped (same, done) clean = (subst IsClean same clean, none_of before after number (ap (rows_of g) same))
  by_asked before after number (ask.By origin) (same, done) clean = (subst IsClean same clean, none_of before after number (ap (rows_of g) same))
  by_asked before after number (ask.Issue i) named clean =
      let serves = was_named before.noted.is_named before after (printed_line_number number) (ask.Issue i) named in (
        omega (arith, serves.survives.clean),
        elim serves.ends [
          | inl answered ↦ issue_calls before after number i answered.0 (answered.1 clean) answered.3
          | inr failed ↦ absurd failed
        ],
      )
  by_asked before after number (ask.Confirm k) named clean =
      let serves = was_named before.noted.is_named before after (printed_line_number number) (ask.Confirm k) named in (
        omega (arith, serves.survives.clean),
        elim serves.ends [
          | inl answered ↦ confirm_calls before after number k answered.0 (answered.1 clean) answered.3
          | inr failed ↦ absurd failed
        ],
      )
  by_asked before after number (ask.Remark r) named clean =
      let serves = was_named before.noted.is_named before after (printed_line_number number) (ask.Remark r) named in (
        omega (arith, serves.survives.clean),
        elim serves.ends [
          | inl answered ↦ remark_calls before after number r answered.0 (answered.1 clean) answered.3
          | inr failed ↦ absurd failed
        ],
      )
  by_asked before after number (ask.List kind uid id) serves clean = (
    omega (arith, serves.survives.clean),
    elim serves.ends [
      | inl answered ↦ list_calls before after number kind uid id answered.0 (answered.1 clean)
      | inr failed ↦ absurd failed
    ],
  )
  by_asked before after number (ask.Show uid id) serves clean = (
    omega (arith, serves.survives.clean),
    elim serves.ends [
      | inl answered ↦ show_calls before after number uid id answered.0 (answered.1 clean)
      | inr failed ↦ absurd failed
    ],
  )

  pub by_line : (before after : ShiftAt S) (number : ℕ) (text : List ℕ) → TakesShiftLine g before number text after (Ok tt) → IsClean after → Earlier before number after
  by_line before after number text (inl (same, is)) clean = absurd (let e = is in cc)
  by_line before after number text (inr (inl (cause, refused, same, is))) clean = absurd (let e = is in cc)
  by_line before after number text (inr (inr (asked, means, serves))) clean = by_asked before after number asked serves clean

  pub by_lines : (count : ℕ) (start last : ShiftAt S) (lines : List (List ℕ)) → TakesLines (TakesShiftLine g) count start lines last → IsClean last
      → IsClean start × ((ms : List FileMoment) × AreCallsOf g count start lines last ms × Run FileStep (rows_of g start) ms (rows_of g last))
  by_lines count start last [] same clean = (subst IsClean same clean, ([], (same, refl), ap (rows_of g) same))
  by_lines count start last (text ∷ lines) (mid, takes, more) clean =
      let later = by_lines (count + 1) mid last lines more clean in
      let here = by_line start mid (in_64_bits (count + 1)) (kept_of text) takes later.0 in
      (here.0, (here.1.0 ++ later.1.0, (mid, here.1.0, later.1.0, refl, here.1.1, later.1.1), Run-append FileStep (rows_of g start) here.1.0 later.1.0 (rows_of g mid) (rows_of g last) here.1.2 later.1.2))

  pub shift_runs : FilesCountersRise → ShiftsAreRuns g
  shift_runs rise count start last lines takes clean =
      let all = (by_lines count start last lines takes clean).1 in
      (all.0, all.1, all.2, rise (rows_of g start) all.0 (rows_of g last) all.2)
