-- The table of answers of a chart: its rows, and when each comes (own)
use Rattle.std.specs.Prelude.{◌≡◌, ℕ, Option, Some, List}
use Rattle.program_edge.specs.declared.input.InputFault.{InputFault}
use Rattle.program_edge.specs.Rows.{Row, row_of, input_row, memory_row}
use Rattle.program_edge.specs.Inputs.{IsUnread}
use Rattle.program_edge.specs.Endings.{Ending, EndsInRow}
use Rattle.text_lines.specs.LineRows.{line_row}
use Rattle.text_lines.specs.Readings.{Fault}
use Rattle.bus_config.specs.declared.fault.ConfigFault.{ConfigFault}
use Rattle.bus_config.specs.FaultTexts.{config_fault_text}
use Rattle.bus_machine.specs.declared.events.Event.{Event}
use Rattle.bus_machine.specs.declared.lines.Line.{Line}
use Rattle.bus_config.specs.Buses.{NamedBus}
use Rattle.bus_world.specs.NodeDisks.{TellEach, DisksStay}
use Rattle.bus_world.specs.WorldTurns.{seen}
use Rattle.bus_world.specs.declared.start.Start.TheVariants.{Format}
use Rattle.bus_world.specs.StartAnswers.{DiskStates, ComesOfStart}
use Rattle.bus_programs.specs.BusFiles.{IsConfigFault}
use Rattle.chart_commands.specs.ChartTexts.{chart_text}
use Rattle.bus_programs.specs.Inputs.{BusInputs}
use Rattle.chart_commands.specs.Inputs.{AsksChart, chart_usage, NoChartConfig, NoChartScript, HasBadEvent}
use Rattle.chart_commands.specs.Inputs.{OverChart}
use Rattle.chart_commands.specs.Runs.{ChartTurns, Charted}

-- the rows for which no disk is used
pub data ChartInputRow (i : BusInputs) : Row → Type 0 where
  no_form : ¬ AsksChart i.words → IsUnread i.config → IsUnread i.script → ChartInputRow i (row_of 2 chart_usage)
  no_config : (fault : InputFault) → NoChartConfig i fault → ChartInputRow i (input_row fault)
  config_refused : (fault : ConfigFault) (text : List ℕ) → AsksChart i.words → IsConfigFault i.config fault
      → config_fault_text fault ≡ Some text → IsUnread i.script → ChartInputRow i (row_of 3 text)
  no_script : (fault : InputFault) → NoChartScript i fault → ChartInputRow i (input_row fault)
  script_refused : (fault : Fault) → HasBadEvent i fault → ChartInputRow i (line_row fault)

-- all events were done, and these are their lines, or no event was. Over disks that tell their bytes this is one run of
-- the machine from the first world of the bus, with all of a replay's run
pub record DoneChart (bus : NamedBus) (events : List Event) (d : DiskStates) (kept : Option (List Line)) : Type 0 where
  pub ran : ChartTurns bus d.before d.after events kept
  pub stay : DisksStay bus d.before d.after (seen ran.turns.moments)
  pub one_run : TellEach bus d.before → Charted bus d.before d.after events kept

-- the table: when each row comes, and what the disks are then; `same` is that every disk is as before
pub data ChartRow (same : Type 0) (i : BusInputs) (d : DiskStates) : Row → Type 0 where
  without_disks : (row : Row) → ChartInputRow i row → same → ChartRow same i d row
  not_started : (row : Row) → OverChart i (λ bus events. ComesOfStart Format bus d row) → (row.status ≡ 9 → same)
      → ChartRow same i d row
  all_done : (text : List ℕ)
      → OverChart i (λ bus events. (lines : List Line) × DoneChart bus events d (Some lines)
      × (text ≡ chart_text bus events lines))
      → ChartRow same i d (row_of 0 text)
  done_without_memory : (kept : Option (List Line)) → OverChart i (λ bus events. DoneChart bus events d kept)
      → ChartRow same i d memory_row

-- how a chart ends: in a row of the table, which is printed
abbrev pub EndsChart : Type 0 → BusInputs → DiskStates → Ending → Type 0
EndsChart same i d e = EndsInRow (ChartRow same i d) e
