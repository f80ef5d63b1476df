-- The table of answers of `explain --locate`: its rows, and when each comes
use Rattle.std.specs.Prelude.{◌≡◌, ◌⊎◌, ℕ, List, [], codes, None, Some, Err}
use Rattle.text_lines.specs.Readings.{Fault}
use Rattle.text_lines.specs.Texts.{line}
use Rattle.program_edge.specs.Input.{input_fault_status}
use Rattle.program_edge.specs.declared.input.InputFault.{InputFault}
use Rattle.program_edge.specs.declared.input.InputFault.TheVariants as input
use Rattle.program_edge.specs.Rows.{Row, row_of, memory_row}
use Rattle.program_edge.specs.Inputs.{Reading, IsUnread, ReadsWhole, Lacks}
use Rattle.program_edge.specs.Endings.{EndsInRow}
use Rattle.can_logs.specs.LogRuns.{LogInputs, IsUnwritten, WatchEnding, on_output, on_errors}
use Rattle.can_logs.specs.MapFaults.{map_input_row, map_line_row}
use Rattle.can_logs.specs.WatchMaps.{NumberedMap, watch_map_of, IsMapOf}
use Rattle.locate_commands.specs.LocateOptions.{LocateArguments, locate_asked}
use Rattle.locate_commands.specs.Locating.{zeroed, FoundIn, located_text, locate_status}

-- the line that is printed if the words are malformed
abbrev pub locate_usage : List ℕ
locate_usage = line (codes "usage: explain --locate [--from N] [--to N] MAP LOG")

-- what is printed if the source of the log gives none
abbrev pub log_input_text : InputFault → List ℕ
log_input_text input.ReadFault = line (codes "log: read fault")
log_input_text input.TooLong = line (codes "log: input too long")
log_input_text input.Memory = []

abbrev pub log_input_row : InputFault → Row
log_input_row fault = row_of (input_fault_status fault) (log_input_text fault)

-- the map was read whole, and with FRESH 0 for each `?` it has these lines with these numbers
abbrev pub ReadsAskingMap : LogInputs → List ℕ → NumberedMap → Type 0
ReadsAskingMap i text mapping = ReadsWhole i.map text × IsMapOf (zeroed text) mapping

-- the map was read whole, and this is then its first fault
abbrev pub IsAskingMapFault : Reading → Fault → Type 0
IsAskingMapFault map fault = (text : List ℕ) × ReadsWhole map text × (watch_map_of (zeroed text) ≡ Err fault)

-- the words are of the form
abbrev pub AsksLocate : List (List ℕ) → Type 0
AsksLocate words = (asked : LocateArguments) × (locate_asked words ≡ Some asked)

-- they are, the map has lines, and the log was read whole; this holds of the text of the map, and of its lines, the log
-- and the values that are looked at
abbrev pub OverLocate : LogInputs → (List ℕ → FoundIn → Type 0) → Type 0
OverLocate i P = (asked : LocateArguments) × (text : List ℕ) × (f : FoundIn) × (locate_asked i.words ≡ Some asked)
    × (f.candidates ≡ asked.candidates) × ReadsAskingMap i text f.mapping × ReadsWhole i.log f.log × P text f

-- the row on standard output: the map with each FRESH that was found, and 0 if each was, else 1
abbrev pub located_row : List ℕ → FoundIn → Row
located_row text f = row_of (locate_status text f) (located_text text f)

pub data LocateOnOutput (i : LogInputs) : Row → Type 0 where
  done : (row : Row) → OverLocate i (λ text f. row ≡ located_row text f) → LocateOnOutput i row

-- the rows on standard error
pub data LocateOnErrors (i : LogInputs) : Row → Type 0 where
  no_form : locate_asked i.words ≡ None → IsUnread i.map → IsUnread i.log → LocateOnErrors i (row_of 2 locate_usage)
  no_map : (fault : InputFault) → AsksLocate i.words → Lacks i.map fault → IsUnread i.log
      → LocateOnErrors i (map_input_row fault)
  map_fault : (fault : Fault) → AsksLocate i.words → IsAskingMapFault i.map fault → IsUnread i.log
      → LocateOnErrors i (map_line_row fault)
  no_log : (fault : InputFault) (text : List ℕ) (mapping : NumberedMap) → AsksLocate i.words
      → ReadsAskingMap i text mapping → Lacks i.log fault → LocateOnErrors i (log_input_row fault)
  no_memory : AsksLocate i.words → Lacks i.map input.Memory → Lacks i.log input.Memory → LocateOnErrors i memory_row

-- how a run ends: in the row on standard output, or in one on standard error
abbrev pub EndsLocate : LogInputs → WatchEnding → Type 0
EndsLocate i e =
    (EndsInRow (LocateOnOutput i) (on_output e) × IsUnwritten e.errors)
    ⊎ (EndsInRow (LocateOnErrors i) (on_errors e) × IsUnwritten e.output)
