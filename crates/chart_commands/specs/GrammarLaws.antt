-- Every chart is a document of the grammar, and the title of each row is the line of a replay, as statements (own)
use Rattle.std.specs.Prelude.{◌≡◌, ℕ, List, [], ◌∷◌, ◌++◌, All, codes}
use Rattle.bus_machine.specs.declared.events.Event.{Event}
use Rattle.bus_machine.specs.declared.lines.Line.{Line}
use Rattle.bus_config.specs.Buses.{NamedBus, IsNamedBus}
use Rattle.bus_script.specs.ScriptEvents.{IsScriptEvent}
use Rattle.bus_machine.specs.LineKinds.{IsLine}
use Rattle.bus_script.specs.LineTexts.{line_text}
use Rattle.chart_commands.specs.ChartTexts.{title_of_row, chart_text}
use Rattle.chart_commands.specs.Grammar.{IsDocument}

-- of a bus, of events such as a script over it has, and of lines, whatever they tell
abbrev pub ChartsAreWellFormed : Type 0
ChartsAreWellFormed = (bus : NamedBus) (events : List Event) (lines : List Line) → IsNamedBus bus
    → All (IsScriptEvent bus.nodes) events → All IsLine lines
    → IsDocument (chart_text bus events lines)

-- what stands in the title of a row, and the line feed after it, are the line of a replay
pub record HasLineAsTitle (class : List ℕ) (row : ℕ) (l : Line) : Type 0 where
  pub text : List ℕ
  pub line_is : line_text row l ≡ text ++ 10 ∷ []
  pub title_is : title_of_row class row l
      ≡ codes "<g class=\"" ++ (class ++ (codes "\"><title>" ++ (text ++ codes "</title>")))

abbrev pub TitlesAreLines : Type 0
TitlesAreLines = (class : List ℕ) (row : ℕ) (l : Line) → HasLineAsTitle class row l
