-- What a run over a map and a log reads and writes
use Rattle.std.specs.Prelude.{◌≡◌, ◌⊎◌, ℕ, Bool, false, List, [], ◌∷◌, length, codes, bytes_eq, Result, Ok, Err}
use Rattle.bus_port.specs.Source.{Came}
use Rattle.bus_port.specs.Sink.{SinkState}
use Rattle.bus_port.specs.Whole.{ReadsAll}
use Rattle.text_lines.specs.Readings.{Fault}
use Rattle.text_lines.specs.Texts.{line}
use Rattle.program_edge.specs.declared.input.InputFault.{InputFault}
use Rattle.program_edge.specs.Told.{AppendedWell}
use Rattle.program_edge.specs.Rows.{Row}
use Rattle.program_edge.specs.Inputs.{Reading, ReadsWhole, Lacks}
use Rattle.program_edge.specs.Endings.{Ending}
use Rattle.can_logs.specs.declared.map_lines.MapLine.{MapLine}
use Rattle.can_logs.specs.MapFaults.{map_input_row, map_line_row}
use Rattle.can_logs.specs.WatchMaps.{NumberedMap, watch_map_of, IsMapOf}

-- ---- what goes in

-- what goes into a run over a map and a log: the words, and what was known of the sources of the map and of the log
pub record LogInputs : Type 0 where
  pub words : List (List ℕ)
  pub map : Reading
  pub log : Reading

-- two words name the map and the log
abbrev pub NamesInputs : List (List ℕ) → Type 0
NamesInputs words = length words ≡ 2

-- there is one word, and it is this
abbrev pub is_only_word : List ℕ → List (List ℕ) → Bool
is_only_word word [] = false
is_only_word word (only ∷ []) = bytes_eq only word
is_only_word word (only ∷ next ∷ rest) = false

-- ---- the map

-- the map was read whole, and has these lines; `means` says which lines a text has
abbrev pub ReadsMapBy : (List ℕ → Result (List MapLine) Fault) → Reading → List MapLine → Type 0
ReadsMapBy means map mapping = (text : List ℕ) × ReadsWhole map text × (means text ≡ Ok mapping)

-- the map was read whole, and this is its first fault
abbrev pub IsMapFaultBy : (List ℕ → Result (List MapLine) Fault) → Reading → Fault → Type 0
IsMapFaultBy means map fault = (text : List ℕ) × ReadsWhole map text × (means text ≡ Err fault)

-- the same of a map of `watch`
abbrev pub IsWatchMapFault : Reading → Fault → Type 0
IsWatchMapFault map fault = IsMapFaultBy watch_map_of map fault

-- why the source of a map gives no lines
pub data LacksWatchMap (map : Reading) : Row → Type 0 where
  no_map : (fault : InputFault) → Lacks map fault → LacksWatchMap map (map_input_row fault)
  refused : (fault : Fault) → IsWatchMapFault map fault → LacksWatchMap map (map_line_row fault)

-- the whole map with the numbers of its lines, or why there is none
abbrev pub ReadsWatchSource : Reading → Result NumberedMap Row → Type 0
ReadsWatchSource map (Ok mapping) = (text : List ℕ) × ReadsWhole map text × IsMapOf text mapping
ReadsWatchSource map (Err row) = LacksWatchMap map row

-- ---- what is written

-- what was known of a sink before and after
pub record Writing : Type 0 where
  pub before : SinkState
  pub after : SinkState

-- nothing was asked of it
abbrev pub IsUnwritten : Writing → Type 0
IsUnwritten w = w.after ≡ w.before

-- exactly this text was written to it, and it didn't fail
abbrev pub WritesWhole : Writing → List ℕ → Type 0
WritesWhole w text = AppendedWell w.before w.after text

-- an ending with this status, by what was written to a sink
abbrev pub ending_of : Writing → ℕ → Ending
ending_of w status = record { before = w.before; after = w.after; status = status }

-- how a run of `watch` ended: what was written to standard output and to standard error, and its status
pub record WatchEnding : Type 0 where
  pub output : Writing
  pub errors : Writing
  pub status : ℕ

abbrev pub on_output : WatchEnding → Ending
on_output e = ending_of e.output e.status

abbrev pub on_errors : WatchEnding → Ending
on_errors e = ending_of e.errors e.status

-- ---- the log

-- these are all bytes of a log up to its end, however many, and no fault was counted
abbrev pub ReadsToEnd : Reading → List ℕ → Type 0
ReadsToEnd log bytes = ReadsAll log.before log.after (length bytes) bytes

-- exactly these bytes came of a log
abbrev pub HasCome : Reading → List ℕ → Type 0
HasCome log bytes = Came log.before log.after bytes

-- what is printed if the log fails, or has too many bytes
abbrev pub log_failed_text : List ℕ
log_failed_text = line (codes "log: read fault")

abbrev pub log_too_long_text : List ℕ
log_too_long_text = line (codes "log: input too long")

-- the status of a log that was read to its end
abbrev pub IsAnswer : ℕ → Type 0
IsAnswer status = (status ≡ 0) ⊎ (status ≡ 1) ⊎ (status ≡ 3)
