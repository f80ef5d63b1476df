-- The lines of a source: what they mean, or why there are none
use Rattle.std.specs.Prelude.{◌≡◌, ℕ, ◌≤◌, List, length, All, Result, Ok, Err, Vec}
use Rattle.std.specs.declared.alloc.Global.{Global}
use Rattle.program_edge.specs.declared.input.InputFault.{InputFault}
use Rattle.program_edge.specs.Rows.{Row, input_row}
use Rattle.program_edge.specs.Inputs.{Reading, ReadsWhole, Lacks}
use Rattle.text_lines.specs.LineRows.{line_row, NoLines}
use Rattle.text_lines.specs.Readings.{Fault, most_lines}
use Rattle.bus_machine.specs.declared.events.Event.{Event}
use Rattle.bus_config.specs.declared.node_lines.NodeLine.{NodeLine}
use Rattle.bus_config.specs.Buses.{NamedBus}
use Rattle.bus_script.specs.ScriptEvents.{IsScriptEvent}

-- why a source gives no lines of this meaning
pub data LacksLines {A : Type 0} (meaning : List ℕ → Result (List A) Fault) (script : Reading) : Row → Type 0 where
  no_lines : (fault : InputFault) → Lacks script fault → LacksLines meaning script (input_row fault)
  lines_refused : (fault : Fault) (text : List ℕ) → ReadsWhole script text → meaning text ≡ Err fault
      → LacksLines meaning script (line_row fault)

-- the source was read whole, and its lines mean these
abbrev pub ReadsLinesAs : {A : Type 0} → (List ℕ → Result (List A) Fault) → Reading → List A → Type 0
ReadsLinesAs meaning script lines = (text : List ℕ) × ReadsWhole script text × (meaning text ≡ Ok lines)

-- ---- scripts

-- how the text of a kind of script is read over nodes
abbrev pub ScriptMeaning : Type 0
ScriptMeaning = List NodeLine → List ℕ → Result (List Event) Fault

-- such as a script over a bus has, at most 65,536 of them
abbrev pub AreEvents : NamedBus → List Event → Type 0
AreEvents bus events = All (IsScriptEvent bus.nodes) events × (length events ≤ most_lines)

-- the events of a script, or why there are none
abbrev pub HasScript : ScriptMeaning → NamedBus → List ℕ → Result (Vec Event Global) Row → Type 0
HasScript meaning bus text (Ok events) = (meaning bus.nodes text ≡ Ok events.items) × AreEvents bus events.items
HasScript meaning bus text (Err row) = NoLines (meaning bus.nodes text) row

-- those of a source that was read whole, or why there are none
abbrev pub FindsScript : ScriptMeaning → NamedBus → Reading → Result (Vec Event Global) Row → Type 0
FindsScript meaning bus script (Ok events) =
    ReadsLinesAs (meaning bus.nodes) script events.items × AreEvents bus events.items
FindsScript meaning bus script (Err row) = LacksLines (meaning bus.nodes) script row
