-- What a crash in a shift leaves of the file (own)
use Rattle.std.specs.Prelude.{◌≡◌, ◌⊎◌, ℕ, ◌+◌, Option, None, List, [], ◌∷◌, ◌++◌, length, map, Result}
use Rattle.machine_runs.specs.Run.{Run}
use Rattle.line_stream.specs.Streams.{TakesNext, TakesLines}
use Rattle.sqlite_trees.specs.Tree.{Trees}
use Rattle.sqlite_trees.specs.declared.store.Store.{Ghosts}
use Rattle.sqlite.specs.State.{HasCleanDisk}
use Rattle.ledger_rows.specs.Files.{RowCommand, FileMoment, FileStep}
use Rattle.ledger_tables.specs.Held.{ledger_of}
use Rattle.ledger_shift.specs.declared.port.ShiftEnd.{ShiftEnd}
use Rattle.ledger_shift.specs.Shifts.{ShiftAt, conn_of, TakesShiftLine}
use Rattle.ledger_shift.specs.Laws.{rows_of, AreCallsOf}

-- each call's command, and the counter that it was answered with
abbrev pub said_in : List FileMoment → List (RowCommand × Option ℕ)
said_in ms = map (λ m. (m.command, m.line)) ms

-- no call was answered with a counter
abbrev pub NoneAnswered : List FileMoment → Type 0
NoneAnswered [] = Unit {0}
NoneAnswered (m ∷ ms) = (m.line ≡ None) × NoneAnswered ms

module _ {S : Type 0} (g : Ghosts S) where
  -- The rows that a crash leaves after lines that were taken are the end of a run of the calls of these lines, with the
  -- same answers: so each counter that was answered has its row. Or a crash could have left them before the first of
  -- these lines, and no call was answered with a counter.
  abbrev pub CrashLeaves : ℕ → ShiftAt S → List (List ℕ) → ShiftAt S → Trees → Type 0
  CrashLeaves count start lines last left =
      (ms : List FileMoment) × AreCallsOf g count start lines last ms
      × (((conn_of g start).may_leave left × NoneAnswered ms)
      ⊎ ((calls : List FileMoment) × (said_in calls ≡ said_in ms)
      × Run FileStep (rows_of g start) calls (ledger_of (left 0))))

  -- whatever a crash leaves after lines that were taken
  abbrev pub CrashesLeaveRuns : Type 0
  CrashesLeaveRuns =
      (count : ℕ) (start last : ShiftAt S) (lines : List (List ℕ)) → TakesLines (TakesShiftLine g) count start lines last
      → HasCleanDisk (conn_of g last) → (left : Trees) → (conn_of g last).may_leave left
      → CrashLeaves count start lines last left

  -- The same after one line more, whatever came of it: it failed, or a crash cut it. It may have its row, unanswered.
  abbrev pub CutLinesLeaveRuns : Type 0
  CutLinesLeaveRuns =
      (count : ℕ) (start mid last : ShiftAt S) (lines : List (List ℕ)) (text : List ℕ)
      (result : Result (Unit {0}) ShiftEnd) → TakesLines (TakesShiftLine g) count start lines mid
      → TakesNext (TakesShiftLine g) (count + length lines) mid text last result → HasCleanDisk (conn_of g last)
      → (left : Trees) → (conn_of g last).may_leave left
      → CrashLeaves count start lines mid left
      ⊎ ((ms : List FileMoment) × AreCallsOf g count start lines mid ms × (m : FileMoment) × (m.line ≡ None)
      × Run FileStep (rows_of g start) (ms ++ m ∷ []) (ledger_of (left 0)))
