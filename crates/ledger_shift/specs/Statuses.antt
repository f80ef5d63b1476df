-- How a shift ends (own)
use Rattle.std.specs.Prelude.{◌≡◌, ◌⊎◌, ℕ, List, [], ◌++◌, codes, Result, Ok, Err}
use Rattle.std.specs.Fmt.{decimal}
use Rattle.bus_port.specs.Sink.{SinkState}
use Rattle.program_edge.specs.Inputs.{Reading}
use Rattle.program_edge.specs.Rows.{Row, row_of, memory_row}
use Rattle.program_edge.specs.Told.{EndingTold}
use Rattle.text_lines.specs.LineRows.{IsRowOf}
use Rattle.line_stream.specs.Streams.{Streamed}
use Rattle.line_stream.specs.declared.driver.StreamFault.{StreamFault}
use Rattle.line_stream.specs.declared.driver.StreamFault.TheVariants.{ReadFault, TooLong}
use Rattle.sqlite_trees.specs.declared.store.Store.{Ghosts}
use Rattle.sqlite.specs.Held.{Held}
use Rattle.ledger_rows.specs.Rows.{RowOrigin}
use Rattle.ledger_tables.specs.Adding.{origin_by}
use Rattle.ledger_shift.specs.declared.port.ShiftEnd.{ShiftEnd}
use Rattle.ledger_shift.specs.declared.port.ShiftEnd.TheVariants as end
use Rattle.ledger_shift.specs.declared.port.Noted.{Noted}
use Rattle.ledger_shift.specs.Opening.{file_row}
use Rattle.ledger_shift.specs.Shifts.{nothing_noted, TakesShiftLine, PausesShift, EndsShift}

-- a line that asks for a row, and nobody was named: its text, and its row, or out of memory for the text
abbrev pub unnamed_text : ℕ → List ℕ
unnamed_text line = codes "script: line " ++ (decimal line ++ codes ": no by before it\n")

abbrev pub IsUnnamedRow : ℕ → Row → Type 0
IsUnnamedRow line row = (row ≡ row_of 4 (unnamed_text line)) ⊎ (row ≡ memory_row)

-- the table of the ends of a shift: a status, and a text on standard error
abbrev pub IsEndRow : Result ShiftEnd StreamFault → Row → Type 0
IsEndRow (Ok end.Done) row = row ≡ row_of 0 []
IsEndRow (Ok end.SomeRefused) row = row ≡ row_of 1 []
IsEndRow (Ok end.Unwritten) row = row ≡ row_of 6 []
IsEndRow (Ok (end.Refused fault)) row = IsRowOf fault row
IsEndRow (Ok (end.Unnamed line)) row = IsUnnamedRow line row
IsEndRow (Ok (end.Failed e)) row = row ≡ file_row e
IsEndRow (Err ReadFault) row = row ≡ row_of 5 (codes "script: read fault\n")
IsEndRow (Err TooLong) row = row ≡ row_of 8 (codes "script: input too long\n")

-- nobody was named yet
abbrev pub nobody : RowOrigin
nobody = origin_by [] [] []

-- what a shift has from its caller: the connection, the script, where answers and refusals go, and the status
pub record ShiftCall (S : Type 0) : Type 0 where
  pub conn_before : Held S
  pub conn_after : Held S
  pub script : Reading
  pub sink_before : SinkState
  pub sink_after : SinkState
  pub errors_before : SinkState
  pub errors_after : SinkState
  pub status : ℕ

-- The lines of the script are served in their order, each answered before the script is read again, to an end that the
-- status names.
pub record RunsShift {S : Type 0} (g : Ghosts S) (call : ShiftCall S) : Type 0 where
  pub ended : Result ShiftEnd StreamFault
  pub origin : RowOrigin
  pub noted : Noted
  pub streamed : Streamed (TakesShiftLine g) (PausesShift g) (EndsShift g) call.script
      (record { conn = call.conn_before; origin = nobody; noted = nothing_noted; sink = call.sink_before })
      (record { conn = call.conn_after; origin = origin; noted = noted; sink = call.sink_after }) ended
  pub row : Row
  pub row_is : IsEndRow ended row
  pub told : EndingTold call.errors_before call.errors_after row.text row.status call.status
