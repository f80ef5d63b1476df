-- The table of answers of `explain`: its rows, and when each comes
use Rattle.std.specs.Prelude.{◌≡◌, ◌⊎◌, ℕ, ◌<◌, ◌≤◌, if◌then◌else◌, Option, None, Some, Result, Ok, Err, List, ◌++◌, length, take, codes}
use Rattle.bus_port.specs.Fault.{last_count}
use Rattle.bus_port.specs.Sink.{Appended}
use Rattle.bus_port.specs.Whole.{AppendedPart}
use Rattle.text_lines.specs.Readings.{Fault}
use Rattle.text_lines.specs.Texts.{line}
use Rattle.program_edge.specs.declared.input.InputFault.{InputFault}
use Rattle.program_edge.specs.Rows.{Row, row_of}
use Rattle.program_edge.specs.Inputs.{Reading, IsUnread, ReadsWhole, Lacks, SourceFailed}
use Rattle.program_edge.specs.Endings.{Ending, EndsInRow, SinkFailed}
use Rattle.can_logs.specs.LogRuns.{LogInputs, NamesInputs, is_only_word, IsWatchMapFault, ReadsToEnd, HasCome, Writing, IsUnwritten, WritesWhole, ending_of, WatchEnding, on_output, on_errors, log_failed_text, log_too_long_text}
use Rattle.can_logs.specs.MapFaults.{map_input_row, map_line_row}
use Rattle.can_logs.specs.WatchMaps.{NumberedMap, IsMapOf}
use Rattle.explain_commands.specs.declared.run.TheConstants.{HELP, VERSION}
use Rattle.explain_commands.specs.declared.answers.LineAnswer.{LineAnswer}
use Rattle.explain_commands.specs.Explaining.{explained_lines, ExplainsComplete, ExplainsAll, explain_status}

-- the line that is printed if the words aren't two
abbrev pub explain_usage : List ℕ
explain_usage = line (codes "usage: explain MAP LOG")

-- the text that `--help` or `--version` alone ask for
abbrev pub explain_text_asked : List (List ℕ) → Option (List ℕ)
explain_text_asked words =
    if is_only_word (codes "--help") words then Some HELP.now
    else if is_only_word (codes "--version") words then Some VERSION.now
    else None

-- the map was read whole, and has these lines with these numbers, as `watch` reads it
abbrev pub ReadsExplainMap : LogInputs → NumberedMap → Type 0
ReadsExplainMap i mapping = (text : List ℕ) × ReadsWhole i.map text × IsMapOf text mapping

-- ---- the log

-- the row of a log that was read to its end: what is said of all its lines
pub data ComesOfExplained (mapping : NumberedMap) (log : Reading) : Row → Type 0 where
  done : (bytes : List ℕ) (answers : List LineAnswer) → ReadsToEnd log bytes → ExplainsAll mapping bytes answers
      → ComesOfExplained mapping log (row_of (explain_status mapping answers) (explained_lines mapping answers))

-- the rows of a log that failed, or of which 2^64 - 1 bytes and more came: what is said of the complete lines of all
-- that came stands on standard output
pub data FailsOfExplained (mapping : NumberedMap) (log : Reading) (output : Writing) : Row → Type 0 where
  failed : (bytes : List ℕ) (answers : List LineAnswer) → HasCome log bytes → ExplainsComplete mapping bytes answers
      → SourceFailed log → WritesWhole output (explained_lines mapping answers)
      → FailsOfExplained mapping log output (row_of 5 log_failed_text)
  too_long : (bytes : List ℕ) (answers : List LineAnswer) → HasCome log bytes → ExplainsComplete mapping bytes answers
      → log.after.faults ≡ log.before.faults → last_count ≤ length bytes
      → WritesWhole output (explained_lines mapping answers)
      → FailsOfExplained mapping log output (row_of 8 log_too_long_text)

-- the sink failed before the log ended. What is said of the complete lines of all that came, except for the last
-- piece, was printed, and a proper prefix of what that piece adds
pub record ExplainStops (mapping : NumberedMap) (log : Reading) (e : Ending) : Type 0 where
  pub status_is : e.status ≡ 6
  pub fails : SinkFailed e
  pub bytes : List ℕ
  pub answers : List LineAnswer
  pub piece : List ℕ
  pub more : List LineAnswer
  pub came : HasCome log (bytes ++ piece)
  pub calm : log.after.faults ≡ log.before.faults
  pub short : length piece ≤ 4096
  pub finds : ExplainsComplete mapping bytes answers
  pub finds_more : ExplainsComplete mapping (bytes ++ piece) (answers ++ more)
  pub size : ℕ
  pub proper : size < length (explained_lines mapping more)
  pub prints : Appended e.before e.after (explained_lines mapping answers ++ take size (explained_lines mapping more))

-- how a log ends: in its row, or before, as standard output failed; or in the row of a fault that is to be told
abbrev pub EndsExplained : NumberedMap → Reading → Writing → Result ℕ Row → Type 0
EndsExplained mapping log output (Ok status) =
    EndsInRow (ComesOfExplained mapping log) (ending_of output status)
    ⊎ ExplainStops mapping log (ending_of output status)
EndsExplained mapping log output (Err row) = FailsOfExplained mapping log output row

-- ---- the whole run

-- the words are of the form, and the map has lines; this holds of them
abbrev pub OverExplainMap : LogInputs → (NumberedMap → Type 0) → Type 0
OverExplainMap i P = NamesInputs i.words × ((mapping : NumberedMap) × ReadsExplainMap i mapping × P mapping)

-- the rows on standard output, with nothing on standard error
pub data ExplainOnOutput (i : LogInputs) : Row → Type 0 where
  asked : (text : List ℕ) → explain_text_asked i.words ≡ Some text → IsUnread i.map → IsUnread i.log
      → ExplainOnOutput i (row_of 0 text)
  of_log : (row : Row) → OverExplainMap i (λ mapping. ComesOfExplained mapping i.log row) → ExplainOnOutput i row

-- the rows on standard error, by what was written to standard output
pub data ExplainOnErrors (i : LogInputs) (output : Writing) : Row → Type 0 where
  no_form : ¬ NamesInputs i.words → explain_text_asked i.words ≡ None → IsUnread i.map → IsUnread i.log
      → IsUnwritten output → ExplainOnErrors i output (row_of 2 explain_usage)
  no_map : (fault : InputFault) → NamesInputs i.words → Lacks i.map fault → IsUnread i.log → IsUnwritten output
      → ExplainOnErrors i output (map_input_row fault)
  map_fault : (fault : Fault) → NamesInputs i.words → IsWatchMapFault i.map fault → IsUnread i.log → IsUnwritten output
      → ExplainOnErrors i output (map_line_row fault)
  no_log : (row : Row) → OverExplainMap i (λ mapping. FailsOfExplained mapping i.log output row)
      → ExplainOnErrors i output row

-- how a run ends: in a row on standard output, or before, as that failed; or in a row on standard error
abbrev pub EndsExplain : LogInputs → WatchEnding → Type 0
EndsExplain i e =
    (EndsInRow (ExplainOnOutput i) (on_output e) × IsUnwritten e.errors)
    ⊎ (OverExplainMap i (λ mapping. ExplainStops mapping i.log (on_output e)) × IsUnwritten e.errors)
    ⊎ EndsInRow (ExplainOnErrors i e.output) (on_errors e)

-- the same before a fault is told: a status, or the row that is to be told on standard error
abbrev pub EndsExplainUntold : LogInputs → Writing → Result ℕ Row → Type 0
EndsExplainUntold i output (Ok status) =
    EndsInRow (ExplainOnOutput i) (ending_of output status)
    ⊎ OverExplainMap i (λ mapping. ExplainStops mapping i.log (ending_of output status))
EndsExplainUntold i output (Err row) = ExplainOnErrors i output row

-- the log failed, and then standard error: what is said of the complete lines of all that came was printed whole, and
-- a proper prefix of the text that tells it
pub record ExplainFailsBoth (mapping : NumberedMap) (log : Reading) (e : WatchEnding) : Type 0 where
  pub bytes : List ℕ
  pub answers : List LineAnswer
  pub came : HasCome log bytes
  pub finds : ExplainsComplete mapping bytes answers
  pub output : WritesWhole e.output (explained_lines mapping answers)
  pub errors : AppendedPart e.errors.before e.errors.after log_failed_text
