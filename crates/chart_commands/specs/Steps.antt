-- What the steps of the work say to one another
use Rattle.std.specs.Prelude.{◌≡◌, ℕ, ◌+◌, Option, None, Some, List, [], ◌∷◌, ◌++◌, ◌≤◌, length, Result, Ok, Err}
use Rattle.std.specs.Prelude.{Vec}
use Rattle.std.specs.Vec.{vec_len, vec_capacity}
use Rattle.std.specs.declared.alloc.AllocError.{AllocError}
use Rattle.std.specs.declared.alloc.Global.{Global}
use Rattle.program_edge.specs.Rows.{Row, row_of, memory_row}
use Rattle.bus_machine.specs.declared.events.Event.{Event}
use Rattle.bus_machine.specs.declared.lines.Line.{Line}
use Rattle.bus_config.specs.Buses.{NamedBus, IsNamedBus}
use Rattle.bus_world.specs.declared.start.Start.TheVariants.{Format}
use Rattle.bus_world.specs.StartAnswers.{DiskStates, ComesUnstarted}
use Rattle.bus_programs.specs.Scripts.{AreEvents}
use Rattle.chart_commands.specs.ChartTexts.{chart_text}
use Rattle.chart_commands.specs.declared.job.ChartJob.{ChartJob}
use Rattle.bus_programs.specs.Inputs.{BusInputs}
use Rattle.chart_commands.specs.Inputs.{SetsChart}
use Rattle.chart_commands.specs.Rows.{ChartInputRow, DoneChart}

-- ---- the first phase

-- the job is over a bus, and has events such as a script has
abbrev pub IsWholeChartJob : ChartJob → Type 0
IsWholeChartJob job = IsNamedBus job.bus × AreEvents job.bus job.events.items

-- how the first phase ends: in a job over inputs that were read whole, or in a row that comes
abbrev pub PreparesChart : BusInputs → Result ChartJob Row → Type 0
PreparesChart i (Ok job) = IsWholeChartJob job × SetsChart i job.bus job.events.items
PreparesChart i (Err row) = ChartInputRow i row

-- ---- the second phase

-- a line was put after those that are kept, and the room for them is no less; or there was no room for it
abbrev pub KeepsLine : {L : Type 0} → Vec L Global → ℕ → L → Vec L Global → Result (Unit {0}) AllocError → Type 0
KeepsLine before number line after (Ok _) =
    (after.items ≡ before.items ++ line ∷ []) × (vec_len after ≡ vec_len before + 1)
    × (vec_capacity before ≤ vec_capacity after)
KeepsLine before number line after (Err _) = vec_capacity before ≤ vec_len before

-- the lines that were kept, if all were
abbrev pub kept_lines : Result (Vec Line Global) AllocError → Option (List Line)
kept_lines (Ok lines) = Some lines.items
kept_lines (Err _) = None

-- if all were kept, there is one for each event
abbrev pub AreOfEvents : List Event → Option (List Line) → Type 0
AreOfEvents events (Some lines) = length lines ≡ length events
AreOfEvents events None = Unit {0}

-- what is printed of the lines that were kept: their chart; or there was no memory for them, or for it
pub data ToldOfLines (bus : NamedBus) (events : List Event) (kept : Option (List Line)) : Row → Type 0 where
  their_chart : (lines : List Line) → kept ≡ Some lines
      → ToldOfLines bus events kept (row_of 0 (chart_text bus events lines))
  no_chart : ToldOfLines bus events kept memory_row

-- what the second phase ends in: the bus isn't started, or the events are done, or none is, and this is printed of
-- their lines; `same` is that every disk is as before
pub data AnswersChart (same : Type 0) (bus : NamedBus) (events : List Event) (d : DiskStates) : Row → Type 0 where
  refused_chart : (row : Row) → ComesUnstarted same Format bus d row → AnswersChart same bus events d row
  charted : (kept : Option (List Line)) (row : Row) → DoneChart bus events d kept → ToldOfLines bus events kept row
      → AnswersChart same bus events d row
