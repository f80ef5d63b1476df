-- What a line of a shift does to a ledger in a file, and how it is answered (own)
use Rattle.std.specs.Prelude.{◌≡◌, ◌⊎◌, ℕ, ◌-◌, ◌^◌, min, Bool, true, false, if◌then◌else◌, List, Result, Ok, Err}
use Rattle.bus_port.specs.Fault.{Rose}
use Rattle.bus_port.specs.Sink.{SinkState}
use Rattle.bus_port.specs.Whole.{AppendedPart}
use Rattle.program_edge.specs.Told.{AppendedWell}
use Rattle.text_lines.specs.Lines.{words_of}
use Rattle.text_lines.specs.declared.fault.Cause.{Cause}
use Rattle.text_lines.specs.declared.fault.ScriptFault.TheVariants.{At, Memory}
use Rattle.sqlite_trees.specs.declared.store.Store.{Ghosts}
use Rattle.sqlite.specs.State.{State, HasCleanDisk, Survives}
use Rattle.sqlite.specs.Held.{Held, state}
use Rattle.sqlite.specs.declared.error.Error.{Error}
use Rattle.ledger_rows.specs.Rows.{RowOrigin}
use Rattle.ledger_tables.specs.Failing.{IsUndone}
use Rattle.ledger_shift.specs.declared.line.ShiftLine.{ShiftLine}
use Rattle.ledger_shift.specs.declared.line.ShiftLine.TheVariants as ask
use Rattle.ledger_shift.specs.declared.port.Noted.{Noted}
use Rattle.ledger_shift.specs.declared.port.ShiftEnd.{ShiftEnd}
use Rattle.ledger_shift.specs.declared.port.ShiftEnd.TheVariants as end
use Rattle.ledger_shift.specs.declared.told.ShiftTold.{ShiftTold}
use Rattle.ledger_shift.specs.Asks.{shift_line_of}
use Rattle.ledger_shift.specs.Told.{tells_refusal, shift_answer_text}
use Rattle.ledger_shift.specs.Answers.{AnswersAsk, FailsAsk, MayAddRow}

-- the connection, who enters its rows, what is noted, and the sink that is answered on
pub record ShiftAt (S : Type 0) : Type 0 where
  pub conn : Held S
  pub origin : RowOrigin
  pub noted : Noted
  pub sink : SinkState

-- ---- what is noted

-- nobody was named, and nothing was refused
abbrev pub nothing_noted : Noted
nothing_noted = record { is_named = false; has_refused = false }

abbrev pub with_name : Noted → Noted
with_name noted = record noted { is_named = true }

abbrev pub noted_after : Noted → ShiftTold → Noted
noted_after noted told = if tells_refusal told then record noted { has_refused = true } else noted

abbrev pub noted_of : Noted → Result ShiftTold Error → Noted
noted_of noted (Ok told) = noted_after noted told
noted_of noted (Err e) = noted

-- ---- what is told

-- the number of a line as it is printed, in 32 bits
abbrev pub printed_line_number : ℕ → ℕ
printed_line_number number = min number (2 ^ 32 - 1)

-- the text of an answer was written; or the sink failed and has a proper prefix of it; or there was no memory for it
abbrev pub TellsAnswer : SinkState → SinkState → List ℕ → Result (Unit {0}) ShiftEnd → Type 0
TellsAnswer before after text (Ok _) = AppendedWell before after text
TellsAnswer before after text (Err end.Unwritten) =
    Rose before.faults after.faults × AppendedPart before after text
TellsAnswer before after text (Err (end.Refused Memory)) = after ≡ before
TellsAnswer before after text (Err _) = ⊥

-- the same of what was served: if the file failed nothing is written
abbrev pub TellsServed : SinkState → SinkState → ℕ → Result ShiftTold Error → Result (Unit {0}) ShiftEnd → Type 0
TellsServed before after number (Ok told) result = TellsAnswer before after (shift_answer_text number told) result
TellsServed before after number (Err e) result = (after ≡ before) × (result ≡ Err (end.Failed e))

module _ {S : Type 0} (g : Ghosts S) where
  abbrev pub conn_of : ShiftAt S → State
  conn_of s = state g s.conn

  -- a command was done, and then answered
  abbrev pub IsAnswered : ShiftAt S → ℕ → ShiftLine → ShiftAt S → Result (Unit {0}) ShiftEnd → Type 0
  IsAnswered before number asked after result =
      (told : ShiftTold)
      × (HasCleanDisk (conn_of after) → AnswersAsk before.origin (conn_of before) (conn_of after) asked told)
      × (after.noted ≡ noted_after before.noted told)
      × TellsAnswer before.sink after.sink (shift_answer_text number told) result

  -- the file failed: nothing is printed, and the connection is shut or sees what it saw
  abbrev pub HasFailedAt : ShiftAt S → ShiftLine → ShiftAt S → Result (Unit {0}) ShiftEnd → Type 0
  HasFailedAt before asked after (Err (end.Failed e)) =
      (after.sink ≡ before.sink)
      × (HasCleanDisk (conn_of after) → FailsAsk before.origin (conn_of before) (conn_of after) asked e
      × IsUndone (conn_of before) (conn_of after))
  HasFailedAt before asked after _ = ⊥

  -- a line that asks for a command
  pub record ServesCommand (before : ShiftAt S) (number : ℕ) (asked : ShiftLine) (after : ShiftAt S)
      (result : Result (Unit {0}) ShiftEnd) : Type 0 where
    pub origin : after.origin ≡ before.origin
    pub survives : Survives (conn_of before) (conn_of after) (MayAddRow before.origin (conn_of before) asked)
    pub ends : IsAnswered before number asked after result ⊎ HasFailedAt before asked after result

  -- a line that asks for a row: it is refused if nobody was named before it, and nothing changes
  abbrev pub ServesNamed : Bool → ShiftAt S → ℕ → ShiftLine → ShiftAt S → Result (Unit {0}) ShiftEnd → Type 0
  ServesNamed true before number asked after result = ServesCommand before number asked after result
  ServesNamed false before number asked after result = (after ≡ before) × (result ≡ Err (end.Unnamed number))

  -- what a line does, by what it asks
  abbrev pub ServesAsk : ShiftAt S → ℕ → ShiftLine → ShiftAt S → Result (Unit {0}) ShiftEnd → Type 0
  ServesAsk before number ask.Skipped after result = (after ≡ before) × (result ≡ Ok tt)
  ServesAsk before number (ask.By origin) after result =
      (after ≡ record before { origin = origin; noted = with_name before.noted }) × (result ≡ Ok tt)
  ServesAsk before number (ask.Issue i) after result =
      ServesNamed before.noted.is_named before number (ask.Issue i) after result
  ServesAsk before number (ask.Confirm k) after result =
      ServesNamed before.noted.is_named before number (ask.Confirm k) after result
  ServesAsk before number (ask.Remark r) after result =
      ServesNamed before.noted.is_named before number (ask.Remark r) after result
  ServesAsk before number (ask.List kind uid id) after result =
      ServesCommand before number (ask.List kind uid id) after result
  ServesAsk before number (ask.Show uid id) after result = ServesCommand before number (ask.Show uid id) after result

  -- A line that asks nothing by its form is refused, and nothing changes. Memory may be out for any line.
  abbrev pub ServesLine : ShiftAt S → ℕ → List ℕ → ShiftAt S → Result (Unit {0}) ShiftEnd → Type 0
  ServesLine before number text after result =
      ((after ≡ before) × (result ≡ Err (end.Refused Memory)))
      ⊎ (((cause : Cause) × (shift_line_of (words_of text) ≡ Err cause) × (after ≡ before)
      × (result ≡ Err (end.Refused (At number cause))))
      ⊎ ((asked : ShiftLine) × (shift_line_of (words_of text) ≡ Ok asked) × ServesAsk before number asked after result))

  -- the same of a line of a log, whose number may be any
  abbrev pub TakesShiftLine : ShiftAt S → ℕ → List ℕ → ShiftAt S → Result (Unit {0}) ShiftEnd → Type 0
  TakesShiftLine before number text after result = ServesLine before (printed_line_number number) text after result

  -- a pause, and the end of the script
  abbrev pub PausesShift : ShiftAt S → ShiftAt S → Result (Unit {0}) ShiftEnd → Type 0
  PausesShift before after result = (after ≡ before) × (result ≡ Ok tt)

  abbrev pub EndsShift : ShiftAt S → ShiftAt S → ShiftEnd → Type 0
  EndsShift before after it =
      (after ≡ before) × (it ≡ (if before.noted.has_refused then end.SomeRefused else end.Done))
