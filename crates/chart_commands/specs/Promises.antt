-- What a chart promises (own)
use Rattle.std.specs.Prelude.{◌≡◌, ◌⊎◌, ℕ, Option, Some, List, [], Ok, Err, codes}
use Rattle.program_edge.specs.declared.input.InputFault.TheVariants.{ReadFault, TooLong}
use Rattle.text_lines.specs.Readings.{Fault}
use Rattle.text_lines.specs.Texts.{fault_text_of}
use Rattle.program_edge.specs.Rows.{memory_row}
use Rattle.program_edge.specs.Inputs.{IsUnread, CountsFault, CountsTooMuch, Offers}
use Rattle.program_edge.specs.Endings.{Ending, EndsInRow, EndsIn, MayEndIn, PrintsWhole, PrintsFront, SinkFailed}
use Rattle.program_edge.specs.Endings.{CountsWriteFault}
use Rattle.bus_config.specs.declared.fault.ConfigFault.{ConfigFault}
use Rattle.bus_config.specs.BusFile.{bus_of}
use Rattle.bus_config.specs.FaultTexts.{config_fault_text}
use Rattle.bus_machine.specs.declared.events.Event.{Event}
use Rattle.bus_machine.specs.declared.lines.Line.{Line}
use Rattle.bus_config.specs.Buses.{NamedBus}
use Rattle.bus_script.specs.EventForms.{events_of}
use Rattle.bus_world.specs.declared.start.Start.TheVariants.{Format}
use Rattle.bus_world.specs.declared.start.StartFault.{StartFault}
use Rattle.bus_world.specs.Starts.{HasRoom, FindsRoom}
use Rattle.bus_world.specs.StartRows.{start_row, StoreCause, LeavesEach}
use Rattle.bus_world.specs.StartAnswers.{DiskStates, BusHasDisks, CountsDiskFault, failed_row}
use Rattle.bus_programs.specs.BusFiles.{IsConfigFault}
use Rattle.chart_commands.specs.ChartTexts.{chart_text}
use Rattle.bus_programs.specs.Inputs.{BusInputs}
use Rattle.chart_commands.specs.Inputs.{AsksChart, chart_usage, NoChartConfig, NoChartScript, HasBadEvent}
use Rattle.chart_commands.specs.Inputs.{OverChart, OffersChart}
use Rattle.chart_commands.specs.Rows.{DoneChart, ChartRow, EndsChart}

-- all events were done, and exactly the chart of their lines was written
pub record DrawsChart (bus : NamedBus) (events : List Event) (d : DiskStates) (e : Ending) : Type 0 where
  pub lines : List Line
  pub done : DoneChart bus events d (Some lines)
  pub drawn : PrintsWhole e (chart_text bus events lines)

-- what a chart leaves of the disks: all as before; or, at 6, 7 and 10 alone, what an unfinished start leaves; or what a
-- run of all events leaves, or of none
pub data LeavesChartDisks (same : Type 0) (i : BusInputs) (d : DiskStates) (e : Ending) : Type 0 where
  as_before : same → LeavesChartDisks same i d e
  by_unfinished_start : (e.status ≡ 6) ⊎ (e.status ≡ 7) ⊎ (e.status ≡ 10)
      → OverChart i (λ bus events. LeavesEach Format bus d.before d.after) → LeavesChartDisks same i d e
  by_chart : (kept : Option (List Line)) → OverChart i (λ bus events. DoneChart bus events d kept)
      → LeavesChartDisks same i d e

-- what a chart promises that has these inputs and disks and ends so, in the order of the table of answers; `same` is
-- that every disk is as before
pub record RunsChart (same : Type 0) (i : BusInputs) (d : DiskStates) (e : Ending) : Type 0 where
  -- The program prints a row of the table and ends with its status, or at 6 a prefix of one. What this says of each
  -- status follows.
  pub ends : EndsChart same i d e
  -- Every disk is as before at the status 2, 3, 4, 5, 8 and 9.
  pub disks_unused : (e.status ≡ 2) ⊎ (e.status ≡ 3) ⊎ (e.status ≡ 4) ⊎ (e.status ≡ 5) ⊎ (e.status ≡ 8)
      ⊎ (e.status ≡ 9) → same
  pub leaves : LeavesChartDisks same i d e
  -- 0: the inputs were read whole, all events were done, and exactly the chart of their lines was printed: over disks
  -- that tell their bytes these are the lines of one run of the machine.
  pub done : e.status ≡ 0 → OverChart i (λ bus events. DrawsChart bus events d e)
  -- 2: exactly if the arguments aren't two; nothing was read.
  pub usage_told : e.status ≡ 2
      → (¬ AsksChart i.words) × IsUnread i.config × IsUnread i.script × PrintsWhole e chart_usage
  pub usage_only : ¬ AsksChart i.words → EndsIn 2 e
  -- 3: the bus file was read whole, and its first fault is printed; of the script nothing was read.
  pub config_refused : e.status ≡ 3 → AsksChart i.words × IsUnread i.script
      × ((fault : ConfigFault) × (text : List ℕ) × IsConfigFault i.config fault × (config_fault_text fault ≡ Some text)
      × PrintsWhole e text)
  pub config_refused_only : (file : List ℕ) (fault : ConfigFault) → AsksChart i.words → Offers i.config file
      → bus_of file ≡ Err fault → MayEndIn 3 e
  -- 4: the inputs were read whole, and the first fault of the script is printed.
  pub refused : e.status ≡ 4 → (fault : Fault) × HasBadEvent i fault × PrintsWhole e (fault_text_of fault)
  pub refused_only : (bus : NamedBus) (input : List ℕ) (fault : Fault) → OffersChart i bus → Offers i.script input
      → events_of bus.nodes input ≡ Err fault → MayEndIn 4 e
  -- 5: exactly if the count of faults rose of the source that was read.
  pub read_fault : e.status ≡ 5
      → (NoChartConfig i ReadFault ⊎ NoChartScript i ReadFault) × PrintsWhole e (codes "read fault\n")
  pub read_fault_only : CountsFault i.config ⊎ CountsFault i.script → EndsIn 5 e
  -- 6: exactly if the sink's count of faults rose; a prefix was written of a row that comes.
  pub write_fault : e.status ≡ 6 → SinkFailed e × PrintsFront (ChartRow same i d) e
  pub write_fault_only : CountsWriteFault e → e.status ≡ 6
  -- 7: out of memory comes, and nothing was written; all events were done, or none was.
  pub no_memory : e.status ≡ 7 → ChartRow same i d memory_row × PrintsWhole e []
  -- 8: exactly if one byte more than an input may have came from a source.
  pub too_long : e.status ≡ 8
      → (NoChartConfig i TooLong ⊎ NoChartScript i TooLong) × PrintsWhole e (codes "input too long\n")
  pub too_long_only : CountsTooMuch i.config ⊎ CountsTooMuch i.script → EndsIn 8 e
  -- 9: exactly if there are fewer disks than nodes, or the disk of a node is too small; the first such node is named.
  pub disks_refused : e.status ≡ 9 → OverChart i (λ bus events. (d.after ≡ d.before)
      × ((fault : StartFault) × FindsRoom bus d.before fault × PrintsWhole e (start_row fault).text))
  pub disks_refused_only : (bus : NamedBus) (input : List ℕ) (events : List Event) → OffersChart i bus
      → Offers i.script input → events_of bus.nodes input ≡ Ok events → ¬ HasRoom bus d.before → MayEndIn 9 e
  -- 10: the disk of the named node failed, and wasn't quiet; over a disk that doesn't tell its bytes also what was read
  -- again.
  pub store_refused : e.status ≡ 10 → OverChart i (λ bus events. LeavesEach Format bus d.before d.after
      × ((fault : StartFault) × StoreCause Format bus d.before d.after fault × PrintsWhole e (start_row fault).text))
  -- If the count of faults of a disk rose, the status is 10 with the row of its node, or 6 with a prefix of it. Or the
  -- ending is one of a bus that was started. (If a disk's past isn't told, a failed start may look like a first event
  -- that failed. That a start answers out of memory only if no count rose is a clause of `World::start`.)
  pub failed_disk_told : (place : ℕ) → CountsDiskFault d place → EndsInRow (λ row. row ≡ failed_row place) e
      ⊎ ((kept : Option (List Line)) × OverChart i (λ bus events. DoneChart bus events d kept))
  -- What is valid is done, if no port failed and there was memory.
  pub complete : (bus : NamedBus) (input : List ℕ) (events : List Event) → OffersChart i bus → Offers i.script input
      → events_of bus.nodes input ≡ Ok events → BusHasDisks Format bus d → ¬ SinkFailed e
      → (e.status ≡ 0) ⊎ (e.status ≡ 7)
