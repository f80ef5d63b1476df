-- The first phase, put together
use Rattle.program_edge.specs.Rows.{Row}
use Rattle.program_edge.specs.Inputs.{IsUnread}
use Rattle.bus_config.specs.Buses.{NamedBus}
use Rattle.bus_script.specs.EventForms.{events_of}
use Rattle.bus_programs.specs.BusFiles.{LacksBus, no_file, file_refused}
use Rattle.bus_programs.specs.Scripts.{LacksLines, no_lines, lines_refused}
use Rattle.bus_programs.specs.Inputs.{BusInputs}
use Rattle.chart_commands.specs.Inputs.{AsksChart, SetsBus}
use Rattle.chart_commands.specs.Rows.{ChartInputRow, no_config, config_refused, no_script, script_refused}

-- there is no bus
pub ChartInputRow-config : (i : BusInputs) (row : Row) → AsksChart i.words → LacksBus i.config row → IsUnread i.script → ChartInputRow i row
ChartInputRow-config i row asks (no_file fault lacks) unread = no_config fault (asks, lacks, unread)
ChartInputRow-config i row asks (file_refused fault text is told) unread = config_refused fault text asks is told unread

-- there is no script
pub ChartInputRow-script : (i : BusInputs) (bus : NamedBus) (row : Row) → SetsBus i bus → LacksLines (events_of bus.nodes) i.script row → ChartInputRow i row
ChartInputRow-script i bus row set (no_lines fault lacks) = no_script fault (bus, set, lacks)
ChartInputRow-script i bus row set (lines_refused fault text whole is) =
    script_refused fault (record { bus = bus; set = set; text = text; whole = whole; is = is })
