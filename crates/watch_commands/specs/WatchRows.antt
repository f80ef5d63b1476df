-- The table of answers of `watch`: its rows, and when each comes
use Rattle.std.specs.Prelude.{◌≡◌, ◌⊎◌, ℕ, ◌<◌, ◌≤◌, None, Some, Result, Ok, Err, List, ◌++◌, length, take}
use Rattle.bus_port.specs.Fault.{last_count}
use Rattle.bus_port.specs.Sink.{Appended}
use Rattle.bus_port.specs.Whole.{AppendedPart}
use Rattle.text_lines.specs.Readings.{Fault}
use Rattle.program_edge.specs.declared.input.InputFault.{InputFault}
use Rattle.program_edge.specs.Rows.{Row, row_of}
use Rattle.program_edge.specs.Inputs.{Reading, IsUnread, ReadsWhole, Lacks, SourceFailed}
use Rattle.program_edge.specs.Endings.{Ending, EndsInRow, SinkFailed}
use Rattle.can_logs.specs.LogRuns.{LogInputs, IsWatchMapFault, ReadsToEnd, HasCome, log_failed_text, log_too_long_text, Writing, IsUnwritten, WritesWhole, ending_of, WatchEnding, on_output, on_errors}
use Rattle.can_logs.specs.MapFaults.{map_input_row, map_line_row}
use Rattle.watch_commands.specs.OptionWords.{watch_options}
use Rattle.watch_commands.specs.Words.{watch_usage, AsksWatch, text_asked}
use Rattle.watch_commands.specs.WatchedMaps.{WatchedMap, IsWatchedMap}
use Rattle.watch_commands.specs.Watching.{Found, found_text, FindsComplete, FindsAll}
use Rattle.watch_commands.specs.LogTotals.{totals_text, watch_status}

-- the map was read whole, and has these lines with these numbers; what is found is printed as the
-- words say
abbrev pub ReadsWatchMap : LogInputs → WatchedMap → Type 0
ReadsWatchMap i mapping =
    (text : List ℕ) × ReadsWhole i.map text × IsWatchedMap (watch_options i.words) text mapping

-- ---- the log

-- the row of a log that was read to its end: what is found of all its lines, and the totals
pub data ComesOfLog (mapping : WatchedMap) (log : Reading) : Row → Type 0 where
  done : (bytes : List ℕ) (findings : List Found) → ReadsToEnd log bytes → FindsAll mapping.lines bytes findings
      → ComesOfLog mapping log
      (row_of (watch_status mapping findings)
      (found_text mapping findings ++ totals_text mapping findings))

-- the rows of a log that failed, or of which 2^64 - 1 bytes and more came: what is found of the complete lines of all
-- that came stands on standard output
pub data FailsOfLog (mapping : WatchedMap) (log : Reading) (output : Writing) : Row → Type 0 where
  failed : (bytes : List ℕ) (findings : List Found) → HasCome log bytes → FindsComplete mapping.lines bytes findings
      → SourceFailed log → WritesWhole output (found_text mapping findings)
      → FailsOfLog mapping log output (row_of 5 log_failed_text)
  too_long : (bytes : List ℕ) (findings : List Found) → HasCome log bytes → FindsComplete mapping.lines bytes findings
      → log.after.faults ≡ log.before.faults → last_count ≤ length bytes
      → WritesWhole output (found_text mapping findings)
      → FailsOfLog mapping log output (row_of 8 log_too_long_text)

-- the sink failed before the log ended. What is found of the complete lines of all that came, except for the last
-- piece, was printed, and a proper prefix of what that piece adds
pub record Stops (mapping : WatchedMap) (log : Reading) (e : Ending) : Type 0 where
  pub status_is : e.status ≡ 6
  pub fails : SinkFailed e
  pub bytes : List ℕ
  pub findings : List Found
  pub piece : List ℕ
  pub more : List Found
  pub came : HasCome log (bytes ++ piece)
  pub calm : log.after.faults ≡ log.before.faults
  pub short : length piece ≤ 4096
  pub finds : FindsComplete mapping.lines bytes findings
  pub finds_more : FindsComplete mapping.lines (bytes ++ piece) (findings ++ more)
  pub size : ℕ
  pub proper : size < length (found_text mapping more)
  pub prints : Appended e.before e.after (found_text mapping findings ++ take size (found_text mapping more))

-- how a log ends: in its row, or before, as standard output failed; or in the row of a fault that is to be told
abbrev pub EndsLog : WatchedMap → Reading → Writing → Result ℕ Row → Type 0
EndsLog mapping log output (Ok status) =
    EndsInRow (ComesOfLog mapping log) (ending_of output status) ⊎ Stops mapping log (ending_of output status)
EndsLog mapping log output (Err row) = FailsOfLog mapping log output row

-- ---- the whole run

-- the words are of the form, and the map has lines; this holds of them
abbrev pub OverMap : LogInputs → (WatchedMap → Type 0) → Type 0
OverMap i P = AsksWatch i.words × ((mapping : WatchedMap) × ReadsWatchMap i mapping × P mapping)

-- the rows on standard output, with nothing on standard error
pub data ComesOnOutput (i : LogInputs) : Row → Type 0 where
  asked : (text : List ℕ) → text_asked i.words ≡ Some text → IsUnread i.map → IsUnread i.log
      → ComesOnOutput i (row_of 0 text)
  of_log : (row : Row) → OverMap i (λ mapping. ComesOfLog mapping i.log row) → ComesOnOutput i row

-- the rows on standard error, by what was written to standard output
pub data ComesOnErrors (i : LogInputs) (output : Writing) : Row → Type 0 where
  no_form : ¬ AsksWatch i.words → text_asked i.words ≡ None → IsUnread i.map → IsUnread i.log → IsUnwritten output
      → ComesOnErrors i output (row_of 2 watch_usage)
  no_map : (fault : InputFault) → AsksWatch i.words → Lacks i.map fault → IsUnread i.log → IsUnwritten output
      → ComesOnErrors i output (map_input_row fault)
  map_fault : (fault : Fault) → AsksWatch i.words → IsWatchMapFault i.map fault → IsUnread i.log → IsUnwritten output
      → ComesOnErrors i output (map_line_row fault)
  no_log : (row : Row) → OverMap i (λ mapping. FailsOfLog mapping i.log output row) → ComesOnErrors i output row

-- how a run ends: in a row on standard output, or before, as that failed; or in a row on standard error
abbrev pub EndsWatch : LogInputs → WatchEnding → Type 0
EndsWatch i e =
    (EndsInRow (ComesOnOutput i) (on_output e) × IsUnwritten e.errors)
    ⊎ (OverMap i (λ mapping. Stops mapping i.log (on_output e)) × IsUnwritten e.errors)
    ⊎ EndsInRow (ComesOnErrors i e.output) (on_errors e)

-- the same before a fault is told: a status, or the row that is to be told on standard error
abbrev pub EndsUntold : LogInputs → Writing → Result ℕ Row → Type 0
EndsUntold i output (Ok status) =
    EndsInRow (ComesOnOutput i) (ending_of output status)
    ⊎ OverMap i (λ mapping. Stops mapping i.log (ending_of output status))
EndsUntold i output (Err row) = ComesOnErrors i output row

-- the log failed, and then standard error: what is found of the complete lines of all that came was printed whole, and
-- a proper prefix of the text that tells it
pub record FailsBoth (mapping : WatchedMap) (log : Reading) (e : WatchEnding) : Type 0 where
  pub bytes : List ℕ
  pub findings : List Found
  pub came : HasCome log bytes
  pub finds : FindsComplete mapping.lines bytes findings
  pub output : WritesWhole e.output (found_text mapping findings)
  pub errors : AppendedPart e.errors.before e.errors.after log_failed_text
