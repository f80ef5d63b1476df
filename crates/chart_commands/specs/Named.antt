-- What the words of a chart name, and what comes of them (own)
use Rattle.std.specs.Prelude.{◌≡◌, ℕ, List, map, Option}
use Rattle.bus_port.specs.Source.{SourceState}
use Rattle.program_edge.specs.NamedSources.{Openings, first_of_two, second_of_two}
use Rattle.program_edge.specs.Endings.{Ending}
use Rattle.bus_programs.specs.Inputs.{BusInputs}
use Rattle.bus_programs.specs.Named.{SourcesBack, RunsOverMade, IsExample, RunOfWords, StatusesOf}
use Rattle.chart_commands.specs.declared.example.TheConstants.{WORDS, BUS, SCRIPT}
use Rattle.chart_commands.specs.Inputs.{AsksChart}
use Rattle.chart_commands.specs.Promises.{RunsChart}

-- two words name the bus file and the script, and words of another number none
abbrev pub NamesBoth : List (List ℕ) → Option (List ℕ) → Option (List ℕ) → Type 0
NamesBoth words bus script = (bus ≡ first_of_two words) × (script ≡ second_of_two words)

-- all that a chart promises, of the disks that were made for it: eight of 65,536 bytes, where it is one
abbrev pub ChartsOverMade : BusInputs → Ending → Type 0
ChartsOverMade i e = RunsOverMade AsksChart 8 RunsChart i e

-- the worked example
abbrev pub IsExampleChart : BusInputs → Type 0
IsExampleChart i = IsExample (map (λ text. text.now) WORDS) BUS.now SCRIPT.now i

-- what comes of the words, and what the statuses say of them
abbrev pub ChartOfWords : (List ℕ → SourceState → Type 0) → Openings → Openings → SourcesBack → List (List ℕ) → Ending
    → Type 0
ChartOfWords opens before after back words e =
    RunOfWords AsksChart NamesBoth IsExampleChart ChartsOverMade opens before after back words e
    × StatusesOf (λ words. ¬ AsksChart words) words e.status
