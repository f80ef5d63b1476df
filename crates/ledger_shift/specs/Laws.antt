-- The calls of a shift as a run of a ledger's file (own)
use Rattle.std.specs.Prelude.{◌≡◌, ℕ, ◌+◌, Option, None, Some, List, [], ◌∷◌, ◌++◌}
use Rattle.machine_runs.specs.Run.{Run}
use Rattle.program_edge.specs.Told.{AppendedWell}
use Rattle.line_stream.specs.Pieces.{in_64_bits}
use Rattle.line_stream.specs.Streams.{TakesLines}
use Rattle.sqlite_trees.specs.declared.store.Store.{Ghosts}
use Rattle.sqlite.specs.State.{HasCleanDisk}
use Rattle.ledger_rows.specs.Rows.{LedgerRow}
use Rattle.ledger_rows.specs.Files.{FileMoment, FileStep, AnsweredCountersRise}
use Rattle.ledger_tables.specs.Held.{ledger_in}
use Rattle.ledger_shift.specs.declared.told.ShiftTold.{ShiftTold}
use Rattle.ledger_shift.specs.declared.told.ShiftTold.TheVariants as told
use Rattle.ledger_shift.specs.Told.{shift_answer_text}
use Rattle.ledger_shift.specs.Shifts.{ShiftAt, conn_of, printed_line_number, TakesShiftLine}

-- the counter of the row that an answer tells
abbrev pub counter_told : ShiftTold → Option ℕ
counter_told (told.Issued counter request) = Some counter
counter_told (told.Confirmed counter) = Some counter
counter_told (told.Shown it) = None
counter_told (told.Refused why) = None
counter_told (told.Remarked kind counter) = Some counter
counter_told (told.Unremarked why) = None
counter_told (told.Listed rows) = None

module _ {S : Type 0} (g : Ghosts S) where
  abbrev pub rows_of : ShiftAt S → List LedgerRow
  rows_of s = ledger_in (conn_of g s)

  -- A line made no call that may add a row, and the rows are as before. Or it made this one, and the counter that it
  -- answered was written with the line's number.
  abbrev pub IsCallOf : ShiftAt S → ℕ → ShiftAt S → List FileMoment → Type 0
  IsCallOf before number after [] = rows_of after ≡ rows_of before
  IsCallOf before number after (m ∷ []) =
      (it : ShiftTold) × (m.line ≡ counter_told it) × (m.after ≡ rows_of after)
      × FileStep (rows_of before) m.command m.line m.after
      × AppendedWell before.sink after.sink (shift_answer_text (printed_line_number number) it)
  IsCallOf before number after _ = ⊥

  -- the calls of these lines after so many, one after another
  abbrev pub AreCallsOf : ℕ → ShiftAt S → List (List ℕ) → ShiftAt S → List FileMoment → Type 0
  AreCallsOf count before [] last ms = (last ≡ before) × (ms ≡ [])
  AreCallsOf count before (text ∷ lines) last ms =
      (mid : ShiftAt S) × (here : List FileMoment) × (more : List FileMoment) × (ms ≡ here ++ more)
      × IsCallOf before (in_64_bits (count + 1)) mid here × AreCallsOf (count + 1) mid lines last more

  -- As long as the disk has returned what was written, the calls of the lines that were taken are a run of the file. So
  -- the counters that were issued or raised and written for a unit and slot strictly rise.
  abbrev pub ShiftsAreRuns : Type 0
  ShiftsAreRuns =
      (count : ℕ) (start last : ShiftAt S) (lines : List (List ℕ)) → TakesLines (TakesShiftLine g) count start lines last
      → HasCleanDisk (conn_of g last)
      → (ms : List FileMoment) × AreCallsOf count start lines last ms × Run FileStep (rows_of start) ms (rows_of last)
      × AnsweredCountersRise ms
