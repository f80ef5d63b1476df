-- What a crash in a shift leaves of the file
use Rattle.std.proofs.Common.{◌≡◌, ◌⊎◌, inl, inr, ℕ, Bool, true, false, ◌+◌, None, Some, List, [], ◌∷◌, ◌++◌, length, Result, Ok, refl, sym, ap, ◌∙◌, subst, arith}
use Rattle.machine_runs.specs.Run.{Run}
use Rattle.machine_runs.proofs.CallerLemmas.{Run-append}
use Rattle.program_edge.specs.Told.{AppendedWell}
use Rattle.key_campaign.specs.declared.commands.Issue.{Issue}
use Rattle.key_campaign.specs.declared.commands.Confirm.{Confirm}
use Rattle.line_stream.specs.Pieces.{in_64_bits}
use Rattle.line_stream.specs.Streams.{TakesLines, kept_of}
use Rattle.sqlite_trees.specs.Tree.{Trees}
use Rattle.sqlite_trees.specs.declared.store.Store.{Ghosts}
use Rattle.ledger_rows.specs.Rows.{LedgerRow}
use Rattle.ledger_rows.specs.declared.lists.ListKind.{ListKind}
use Rattle.ledger_rows.specs.declared.remarks.Remark.{Remark}
use Rattle.ledger_rows.specs.Files.{RowCommand, FileMoment, FileStep, IssueBy, ConfirmBy, RemarkBy}
use Rattle.ledger_tables.specs.Held.{ledger_of}
use Rattle.ledger_shift.specs.declared.line.ShiftLine.{ShiftLine}
use Rattle.ledger_shift.specs.declared.line.ShiftLine.TheVariants as ask
use Rattle.ledger_shift.specs.declared.told.ShiftTold.{ShiftTold}
use Rattle.ledger_shift.specs.declared.told.ShiftTold.TheVariants as told
use Rattle.ledger_shift.specs.Told.{shift_answer_text}
use Rattle.ledger_shift.specs.declared.port.ShiftEnd.{ShiftEnd}
use Rattle.ledger_shift.specs.Answers.{AnswersAsk, MayAddRow}
use Rattle.ledger_shift.specs.Shifts.{ShiftAt, conn_of, printed_line_number, ServesNamed, ServesAsk, TakesShiftLine}
use Rattle.ledger_shift.specs.Laws.{counter_told, rows_of, IsCallOf, AreCallsOf}
use Rattle.ledger_shift.specs.Crashes.{said_in, NoneAnswered, CrashLeaves, CrashesLeaveRuns, CutLinesLeaveRuns}
use Rattle.ledger_shift.proofs.Calls.{IsClean, same_rows, was_named, by_line, by_lines}

-- ---- lists of calls

said_append : (ms ns : List FileMoment) → said_in (ms ++ ns) ≡ said_in ms ++ said_in ns
said_append [] ns = refl
said_append (m ∷ ms) ns = ap (λ l. (m.command, m.line) ∷ l) (said_append ms ns)

none_append : (ms ns : List FileMoment) → NoneAnswered ms → NoneAnswered ns → NoneAnswered (ms ++ ns)
none_append [] ns a b = b
none_append (m ∷ ms) ns a b = (a.0, none_append ms ns a.1 b)

-- the same commands, which leave these rows
abbrev idle : List LedgerRow → List FileMoment → List FileMoment
idle rows [] = []
idle rows (m ∷ ms) = record { command = m.command; line = None; after = rows } ∷ idle rows ms

idle_run : (rows : List LedgerRow) (ms : List FileMoment) → Run FileStep rows (idle rows ms) rows
idle_run rows [] = refl
idle_run rows (m ∷ ms) = (inl refl, idle_run rows ms)

idle_said : (rows : List LedgerRow) (ms : List FileMoment) → NoneAnswered ms → said_in (idle rows ms) ≡ said_in ms
idle_said rows [] none = refl
idle_said rows (m ∷ ms) none = rw (none.0, idle_said rows ms none.1) refl

module _ {S : Type 0} (g : Ghosts S) (left : Trees) where
  abbrev rows_left : List LedgerRow
  rows_left = ledger_of (left 0)

  abbrev Leaves : ShiftAt S → Type 0
  Leaves s = (conn_of g s).may_leave left

  abbrev LeavesRun : List LedgerRow → List FileMoment → Type 0
  LeavesRun rows ms = (calls : List FileMoment) × (said_in calls ≡ said_in ms) × Run FileStep rows calls rows_left

  -- ---- a line that was taken

  abbrev LineLeft : ShiftAt S → ℕ → ShiftAt S → Type 0
  LineLeft before number after = (here : List FileMoment) × IsCallOf g before number after here
      × ((Leaves before × NoneAnswered here) ⊎ LeavesRun (rows_of g before) here)

  kept_line : (before after : ShiftAt S) (number : ℕ) → rows_of g after ≡ rows_of g before → Leaves before → LineLeft before number after
  kept_line before after number same leaves = ([], same, inl (leaves, tt))

  one_left : (before after : ShiftAt S) (number : ℕ) (m : FileMoment) (it : ShiftTold) → m.line ≡ counter_told it → m.after ≡ rows_of g after
      → FileStep (rows_of g before) m.command m.line m.after → AppendedWell before.sink after.sink (shift_answer_text (printed_line_number number) it)
      → (Leaves before × NoneAnswered (m ∷ [])) ⊎ LeavesRun (rows_of g before) (m ∷ []) → LineLeft before number after
  one_left before after number m it line_is after_is step wrote rest = (m ∷ [], (it, line_is, after_is, step, wrote), rest)

  issue_left : (before after : ShiftAt S) (number : ℕ) (i : Issue) (it : ShiftTold) → Leaves before ⊎ MayAddRow before.origin (conn_of g before) (ask.Issue i) left
      → AnswersAsk before.origin (conn_of g before) (conn_of g after) (ask.Issue i) it
      → AppendedWell before.sink after.sink (shift_answer_text (printed_line_number number) it) → Leaves after → LineLeft before number after
  issue_left before after number i (told.Issued counter request) crash does wrote may =
      let m : FileMoment = record { command = IssueBy i before.origin; line = Some counter; after = rows_of g after } in
      one_left before after number m (told.Issued counter request) refl refl does.0 wrote (inr (m ∷ [], refl, (does.0, ap (λ (t : Trees). ledger_of (t 0)) (does.2 left may))))
  issue_left before after number i (told.Refused why) crash does wrote may =
      let m : FileMoment = record { command = IssueBy i before.origin; line = None; after = rows_of g after } in
      let cut : FileMoment = record { command = IssueBy i before.origin; line = None; after = rows_left } in
      one_left before after number m (told.Refused why) refl refl (inl (same_rows g before after does.1)) wrote (elim crash [
        | inl leaves ↦ inl (leaves, (refl, tt))
        | inr adds ↦ inr (cut ∷ [], refl, (inr adds, refl))
      ])
  issue_left before after number i (told.Confirmed counter) crash does wrote may = absurd does
  issue_left before after number i (told.Shown it) crash does wrote may = absurd does
  issue_left before after number i (told.Remarked kind counter) crash does wrote may = absurd does
  issue_left before after number i (told.Unremarked why) crash does wrote may = absurd does
  issue_left before after number i (told.Listed rows) crash does wrote may = absurd does

  confirm_left : (before after : ShiftAt S) (number : ℕ) (k : Confirm) (it : ShiftTold) → Leaves before ⊎ MayAddRow before.origin (conn_of g before) (ask.Confirm k) left
      → AnswersAsk before.origin (conn_of g before) (conn_of g after) (ask.Confirm k) it
      → AppendedWell before.sink after.sink (shift_answer_text (printed_line_number number) it) → Leaves after → LineLeft before number after
  confirm_left before after number k (told.Confirmed counter) crash does wrote may =
      let m : FileMoment = record { command = ConfirmBy k before.origin; line = Some counter; after = rows_of g after } in
      one_left before after number m (told.Confirmed counter) refl refl does.0 wrote (inr (m ∷ [], refl, (does.0, ap (λ (t : Trees). ledger_of (t 0)) (does.1 left may))))
  confirm_left before after number k (told.Refused why) crash does wrote may =
      let m : FileMoment = record { command = ConfirmBy k before.origin; line = None; after = rows_of g after } in
      let cut : FileMoment = record { command = ConfirmBy k before.origin; line = None; after = rows_left } in
      one_left before after number m (told.Refused why) refl refl (inl (same_rows g before after does.1)) wrote (elim crash [
        | inl leaves ↦ inl (leaves, (refl, tt))
        | inr adds ↦ inr (cut ∷ [], refl, (inr adds, refl))
      ])
  confirm_left before after number k (told.Issued counter request) crash does wrote may = absurd does
  confirm_left before after number k (told.Shown it) crash does wrote may = absurd does
  confirm_left before after number k (told.Remarked kind counter) crash does wrote may = absurd does
  confirm_left before after number k (told.Unremarked why) crash does wrote may = absurd does
  confirm_left before after number k (told.Listed rows) crash does wrote may = absurd does

  remark_left : (before after : ShiftAt S) (number : ℕ) (r : Remark) (it : ShiftTold) → Leaves before ⊎ MayAddRow before.origin (conn_of g before) (ask.Remark r) left
      → AnswersAsk before.origin (conn_of g before) (conn_of g after) (ask.Remark r) it
      → AppendedWell before.sink after.sink (shift_answer_text (printed_line_number number) it) → Leaves after → LineLeft before number after
  remark_left before after number r (told.Remarked kind counter) crash does wrote may =
      let m : FileMoment = record { command = RemarkBy r before.origin; line = Some counter; after = rows_of g after } in
      one_left before after number m (told.Remarked kind counter) refl refl does.1 wrote (inr (m ∷ [], refl, (does.1, ap (λ (t : Trees). ledger_of (t 0)) (does.2 left may))))
  remark_left before after number r (told.Unremarked why) crash does wrote may =
      let m : FileMoment = record { command = RemarkBy r before.origin; line = None; after = rows_of g after } in
      let cut : FileMoment = record { command = RemarkBy r before.origin; line = None; after = rows_left } in
      one_left before after number m (told.Unremarked why) refl refl (inl (same_rows g before after does.1)) wrote (elim crash [
        | inl leaves ↦ inl (leaves, (refl, tt))
        | inr adds ↦ inr (cut ∷ [], refl, (inr adds, refl))
      ])
  remark_left before after number r (told.Issued counter request) crash does wrote may = absurd does
  remark_left before after number r (told.Confirmed counter) crash does wrote may = absurd does
  remark_left before after number r (told.Shown it) crash does wrote may = absurd does
  remark_left before after number r (told.Refused why) crash does wrote may = absurd does
  remark_left before after number r (told.Listed rows) crash does wrote may = absurd does

  show_left : (before after : ShiftAt S) (number : ℕ) (uid : List ℕ) (id : ℕ) (it : ShiftTold) → Leaves before ⊎ MayAddRow before.origin (conn_of g before) (ask.Show uid id) left
      → AnswersAsk before.origin (conn_of g before) (conn_of g after) (ask.Show uid id) it → LineLeft before number after
  show_left before after number uid id (told.Shown it) crash does = elim crash [
    | inl leaves ↦ kept_line before after number (same_rows g before after does.1) leaves
    | inr adds ↦ absurd adds
  ]
  show_left before after number uid id (told.Issued counter request) crash does = absurd does
  show_left before after number uid id (told.Confirmed counter) crash does = absurd does
  show_left before after number uid id (told.Remarked kind counter) crash does = absurd does
  show_left before after number uid id (told.Unremarked why) crash does = absurd does
  show_left before after number uid id (told.Refused why) crash does = absurd does
  show_left before after number uid id (told.Listed rows) crash does = absurd does

  list_left : (before after : ShiftAt S) (number : ℕ) (kind : ListKind) (uid : List ℕ) (id : ℕ) (it : ShiftTold) → Leaves before ⊎ MayAddRow before.origin (conn_of g before) (ask.List kind uid id) left
      → AnswersAsk before.origin (conn_of g before) (conn_of g after) (ask.List kind uid id) it → LineLeft before number after
  list_left before after number kind uid id (told.Listed rows) crash does = elim crash [
    | inl leaves ↦ kept_line before after number (same_rows g before after does.1) leaves
    | inr adds ↦ absurd adds
  ]
  list_left before after number kind uid id (told.Issued counter request) crash does = absurd does
  list_left before after number kind uid id (told.Confirmed counter) crash does = absurd does
  list_left before after number kind uid id (told.Shown it) crash does = absurd does
  list_left before after number kind uid id (told.Refused why) crash does = absurd does
  list_left before after number kind uid id (told.Remarked said counter) crash does = absurd does
  list_left before after number kind uid id (told.Unremarked why) crash does = absurd does

  asked_left : (before after : ShiftAt S) (number : ℕ) (asked : ShiftLine) → ServesAsk g before (printed_line_number number) asked after (Ok tt) → IsClean g after → Leaves after → LineLeft before number after
  asked_left before after number ask.Skipped (same, done) clean may = kept_line before after number (ap (rows_of g) same) (subst Leaves same may)
  asked_left before after number (ask.By origin) (same, done) clean may = kept_line before after number (ap (rows_of g) same) (subst Leaves same may)
  asked_left before after number (ask.Issue i) named clean may =
      let serves = was_named g before.noted.is_named before after (printed_line_number number) (ask.Issue i) named in
      elim serves.ends [
        | inl answered ↦ issue_left before after number i answered.0 (serves.survives.crash clean left may) (answered.1 clean) answered.3 may
        | inr failed ↦ absurd failed
      ]
  asked_left before after number (ask.Confirm k) named clean may =
      let serves = was_named g before.noted.is_named before after (printed_line_number number) (ask.Confirm k) named in
      elim serves.ends [
        | inl answered ↦ confirm_left before after number k answered.0 (serves.survives.crash clean left may) (answered.1 clean) answered.3 may
        | inr failed ↦ absurd failed
      ]
  asked_left before after number (ask.Remark r) named clean may =
      let serves = was_named g before.noted.is_named before after (printed_line_number number) (ask.Remark r) named in
      elim serves.ends [
        | inl answered ↦ remark_left before after number r answered.0 (serves.survives.crash clean left may) (answered.1 clean) answered.3 may
        | inr failed ↦ absurd failed
      ]
  asked_left before after number (ask.List kind uid id) serves clean may =
      elim serves.ends [
        | inl answered ↦ list_left before after number kind uid id answered.0 (serves.survives.crash clean left may) (answered.1 clean)
        | inr failed ↦ absurd failed
      ]
  asked_left before after number (ask.Show uid id) serves clean may =
      elim serves.ends [
        | inl answered ↦ show_left before after number uid id answered.0 (serves.survives.crash clean left may) (answered.1 clean)
        | inr failed ↦ absurd failed
      ]

  line_left : (before after : ShiftAt S) (number : ℕ) (text : List ℕ) → TakesShiftLine g before number text after (Ok tt) → IsClean g after → Leaves after → LineLeft before number after
  line_left before after number text (inl (same, is)) clean may = absurd (let e = is in cc)
  line_left before after number text (inr (inl (cause, refused, same, is))) clean may = absurd (let e = is in cc)
  line_left before after number text (inr (inr (asked, means, serves))) clean may = asked_left before after number asked serves clean may

  -- ---- lines that were taken

  -- a crash could have left it before the later lines, none of which was answered with a counter
  quiet_after : (count : ℕ) (start mid last : ShiftAt S) (text : List ℕ) (lines : List (List ℕ)) → (here : LineLeft start (in_64_bits (count + 1)) mid)
      → (ms : List FileMoment) → AreCallsOf g (count + 1) mid lines last ms → NoneAnswered ms → CrashLeaves g count start (text ∷ lines) last left
  quiet_after count start mid last text lines (here, call, inl (leaves, none)) ms calls later =
      (here ++ ms, (mid, here, ms, refl, call, calls), inl (leaves, none_append here ms none later))
  quiet_after count start mid last text lines (here, call, inr (cut, said, run)) ms calls later = (
    here ++ ms,
    (mid, here, ms, refl, call, calls),
    inr (
      cut ++ idle rows_left ms,
      said_append cut (idle rows_left ms) ∙ rw (said, idle_said rows_left ms later) (sym (said_append here ms)),
      Run-append FileStep (rows_of g start) cut (idle rows_left ms) rows_left rows_left run (idle_run rows_left ms),
    ),
  )

  lines_left : (count : ℕ) (start last : ShiftAt S) (lines : List (List ℕ)) → TakesLines (TakesShiftLine g) count start lines last → IsClean g last → Leaves last → CrashLeaves g count start lines last left
  lines_left count start last [] same clean may = ([], (same, refl), inl (subst Leaves same may, tt))
  lines_left count start last (text ∷ lines) (mid, takes, more) clean may =
      let mid_clean = (by_lines g (count + 1) mid last lines more clean).0 in
      let later = lines_left (count + 1) mid last lines more clean may in
      elim later.2 [
        | inl (leaves, none) ↦ quiet_after count start mid last text lines (line_left start mid (in_64_bits (count + 1)) (kept_of text) takes mid_clean leaves) later.0 later.1 none
        | inr (calls, said, run) ↦
            let here = (by_line g start mid (in_64_bits (count + 1)) (kept_of text) takes mid_clean).1 in (
              here.0 ++ later.0,
              (mid, here.0, later.0, refl, here.1, later.1),
              inr (
                here.0 ++ calls,
                said_append here.0 calls ∙ rw said (sym (said_append here.0 later.0)),
                Run-append FileStep (rows_of g start) here.0 calls (rows_of g mid) rows_left here.2 run,
              ),
            )
      ]

  -- ---- a line with whatever end

  abbrev CutLeft : ShiftAt S → Type 0
  CutLeft before = IsClean g before × (Leaves before ⊎ ((command : RowCommand) × FileStep (rows_of g before) command None rows_left))

  same_cut : (before after : ShiftAt S) → after ≡ before → IsClean g after → Leaves after → CutLeft before
  same_cut before after same clean may = (subst (IsClean g) same clean, inl (subst Leaves same may))

  issue_cut : (named : Bool) (before after : ShiftAt S) (number : ℕ) (i : Issue) (result : Result (Unit {0}) ShiftEnd) → ServesNamed g named before number (ask.Issue i) after result → IsClean g after → Leaves after → CutLeft before
  issue_cut true before after number i result serves clean may = (
    omega (arith, serves.survives.clean),
    elim (serves.survives.crash clean left may) [ inl leaves ↦ inl leaves | inr adds ↦ inr (IssueBy i before.origin, inr adds) ],
  )
  issue_cut false before after number i result (same, is) clean may = same_cut before after same clean may

  confirm_cut : (named : Bool) (before after : ShiftAt S) (number : ℕ) (k : Confirm) (result : Result (Unit {0}) ShiftEnd) → ServesNamed g named before number (ask.Confirm k) after result → IsClean g after → Leaves after → CutLeft before
  confirm_cut true before after number k result serves clean may = (
    omega (arith, serves.survives.clean),
    elim (serves.survives.crash clean left may) [ inl leaves ↦ inl leaves | inr adds ↦ inr (ConfirmBy k before.origin, inr adds) ],
  )
  confirm_cut false before after number k result (same, is) clean may = same_cut before after same clean may

  remark_cut : (named : Bool) (before after : ShiftAt S) (number : ℕ) (r : Remark) (result : Result (Unit {0}) ShiftEnd) → ServesNamed g named before number (ask.Remark r) after result → IsClean g after → Leaves after → CutLeft before
  remark_cut true before after number r result serves clean may = (
    omega (arith, serves.survives.clean),
    elim (serves.survives.crash clean left may) [ inl leaves ↦ inl leaves | inr adds ↦ inr (RemarkBy r before.origin, inr adds) ],
  )
  remark_cut false before after number r result (same, is) clean may = same_cut before after same clean may

  asked_cut : (before after : ShiftAt S) (number : ℕ) (asked : ShiftLine) (result : Result (Unit {0}) ShiftEnd) → ServesAsk g before number asked after result → IsClean g after → Leaves after → CutLeft before
  asked_cut before after number ask.Skipped result (same, done) clean may = same_cut before after same clean may
  asked_cut before after number (ask.By origin) result (same, done) clean may = (subst (IsClean g) same clean, inl (subst Leaves same may))
  asked_cut before after number (ask.Issue i) result named clean may = issue_cut before.noted.is_named before after number i result named clean may
  asked_cut before after number (ask.Confirm k) result named clean may = confirm_cut before.noted.is_named before after number k result named clean may
  asked_cut before after number (ask.Remark r) result named clean may = remark_cut before.noted.is_named before after number r result named clean may
  asked_cut before after number (ask.List kind uid id) result serves clean may = (
    omega (arith, serves.survives.clean),
    elim (serves.survives.crash clean left may) [ inl leaves ↦ inl leaves | inr adds ↦ absurd adds ],
  )
  asked_cut before after number (ask.Show uid id) result serves clean may = (
    omega (arith, serves.survives.clean),
    elim (serves.survives.crash clean left may) [ inl leaves ↦ inl leaves | inr adds ↦ absurd adds ],
  )

  line_cut : (before after : ShiftAt S) (number : ℕ) (text : List ℕ) (result : Result (Unit {0}) ShiftEnd) → TakesShiftLine g before number text after result → IsClean g after → Leaves after → CutLeft before
  line_cut before after number text result (inl (same, is)) clean may = same_cut before after same clean may
  line_cut before after number text result (inr (inl (cause, refused, same, is))) clean may = same_cut before after same clean may
  line_cut before after number text result (inr (inr (asked, means, serves))) clean may = asked_cut before after (printed_line_number number) asked result serves clean may

  after_cut : (count : ℕ) (start mid : ShiftAt S) (lines : List (List ℕ)) → TakesLines (TakesShiftLine g) count start lines mid → CutLeft mid
      → CrashLeaves g count start lines mid left
      ⊎ ((ms : List FileMoment) × AreCallsOf g count start lines mid ms × (m : FileMoment) × (m.line ≡ None) × Run FileStep (rows_of g start) (ms ++ m ∷ []) rows_left)
  after_cut count start mid lines takes (clean, inl leaves) = inl (lines_left count start mid lines takes clean leaves)
  after_cut count start mid lines takes (clean, inr (command, step)) =
      let all = (by_lines g count start mid lines takes clean).1 in
      let m : FileMoment = record { command = command; line = None; after = rows_left } in
      inr (all.0, all.1, m, refl, Run-append FileStep (rows_of g start) all.0 (m ∷ []) (rows_of g mid) rows_left all.2 (step, refl))

module _ {S : Type 0} (g : Ghosts S) where
  pub crash_runs : CrashesLeaveRuns g
  crash_runs count start last lines takes clean left may = lines_left g left count start last lines takes clean may

  pub cut_runs : CutLinesLeaveRuns g
  cut_runs count start mid last lines text result takes next clean left may =
      after_cut g left count start mid lines takes (line_cut g left mid last (in_64_bits (count + length lines + 1)) (kept_of text) result next clean may)
