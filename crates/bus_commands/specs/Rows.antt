-- The table of answers of the commands of a bus: its rows, and when each comes
use Rattle.std.specs.Prelude.{◌≡◌, ℕ, List, Some, Result}
use Rattle.program_edge.specs.declared.input.InputFault.{InputFault}
use Rattle.program_edge.specs.Rows.{Row, row_of, input_row, memory_row}
use Rattle.program_edge.specs.Inputs.{IsUnread}
use Rattle.program_edge.specs.Endings.{Ending, EndsInRow}
use Rattle.text_lines.specs.LineRows.{line_row}
use Rattle.text_lines.specs.Readings.{Fault}
use Rattle.run_driver.specs.declared.printing.Unwritten.{Unwritten}
use Rattle.bus_config.specs.declared.fault.ConfigFault.{ConfigFault}
use Rattle.bus_config.specs.FaultTexts.{config_fault_text}
use Rattle.bus_config.specs.Buses.{NamedBus, IsNamedBus}
use Rattle.bus_machine.specs.declared.events.Event.{Event}
use Rattle.bus_commands.specs.declared.summary.Summary.{Summary}
use Rattle.bus_commands.specs.Words.{AsksNothing}
use Rattle.bus_commands.specs.Texts.{usage, IsOutput, fault_of}
use Rattle.bus_programs.specs.BusFiles.{IsConfigFault}
use Rattle.bus_programs.specs.Inputs.{BusInputs}
use Rattle.bus_commands.specs.Inputs.{AsksOverBus, NoConfig, NoScript, OverLines, OverReplay}
use Rattle.bus_commands.specs.Inputs.{OverTrial, OverWorld}
use Rattle.bus_world.specs.StartAnswers.{DiskStates, ComesOfStart}
use Rattle.bus_commands.specs.StartRows.{CommandDisks}
use Rattle.bus_commands.specs.Summaries.{summary_text}
use Rattle.bus_world.specs.declared.start.Start.{Start}
use Rattle.run_driver.specs.Statuses.{unwritten_status}
use Rattle.bus_commands.specs.Replays.{ReplayTurns}
use Rattle.bus_world.specs.NodeDisks.{TellEach, DisksStay}
use Rattle.bus_world.specs.WorldTurns.{seen}
use Rattle.bus_commands.specs.Headline.{TellFor, ReplayedOver}
use Rattle.bus_commands.specs.TrialRuns.{TrialTurns, Tried}

-- the rows for which no disk is used
pub data ComesOfInputs (i : BusInputs) : Row → Type 0 where
  no_form : AsksNothing i.words → IsUnread i.config → IsUnread i.script → ComesOfInputs i (row_of 2 usage)
  no_config : (fault : InputFault) → NoConfig i fault → ComesOfInputs i (input_row fault)
  config_refused : (fault : ConfigFault) (text : List ℕ) → AsksOverBus i.words → IsConfigFault i.config fault
      → config_fault_text fault ≡ Some text → IsUnread i.script → ComesOfInputs i (row_of 3 text)
  no_script : (fault : InputFault) → NoScript i fault → ComesOfInputs i (input_row fault)
  script_refused : (fault : Fault) → OverLines i (λ task input. fault_of task input ≡ Some fault)
      → ComesOfInputs i (line_row fault)
  done : (text : List ℕ) → OverLines i (λ task input. IsOutput task input text) → ComesOfInputs i (row_of 0 text)

-- all events of a trial were done; over disks that tell their bytes they are one run of the machine
pub record DoneTrial (bus : NamedBus) (events : List Event) (d : DiskStates) (summary : Summary) : Type 0 where
  pub ran : TrialTurns bus d.before d.after events summary
  pub stay : DisksStay bus d.before d.after (seen ran.turns.moments)
  pub one_run : TellEach bus d.before → Tried bus d.before d.after events summary

-- a replay did its first events, up to the first whose text wasn't written, and has the status that says so. Over disks
-- that tell their bytes they are one run of the machine from where the replay begins
pub record DoneReplay (start : Start) (bus : NamedBus) (events : List Event) (d : DiskStates) (e : Ending)
    (result : Result (Unit {0}) Unwritten) : Type 0 where
  pub ran : ReplayTurns start bus d.before d.after events e.before e.after result
  pub status_is : e.status ≡ unwritten_status result
  pub stay : DisksStay bus d.before d.after (seen ran.printed.moments)
  pub one_run : TellFor start bus d.before → ReplayedOver start bus d.before d.after events e.before e.after result

-- a replay is asked for, and it did the first events of its script, which ended so
abbrev pub ReplaysScript : BusInputs → DiskStates → Ending → Result (Unit {0}) Unwritten → Type 0
ReplaysScript i d e result = OverReplay i (λ start bus events. DoneReplay start bus events d e result)

-- a trial is asked for, and it did all its events, which have this summary
abbrev pub TriesEvents : BusInputs → DiskStates → Summary → Type 0
TriesEvents i d summary = OverTrial i (λ bus events. DoneTrial bus events d summary)

-- the table: when each row comes, and what the disks are then
pub data ComesInRun {V : Type 0} (i : BusInputs) (d : CommandDisks V) : Row → Type 0 where
  without_disks : (row : Row) → ComesOfInputs i row → d.new ≡ d.old → ComesInRun i d row
  not_started : (row : Row) → OverWorld i (λ start bus events. IsNamedBus bus × ComesOfStart start bus d.states row)
      → (row.status ≡ 9 → d.new ≡ d.old) → ComesInRun i d row
  tried : (summary : Summary) → TriesEvents i d.states summary → ComesInRun i d (row_of 0 (summary_text summary))
  tried_without_memory : (summary : Summary) → TriesEvents i d.states summary → ComesInRun i d memory_row

-- how a command ends: in a row of the table, which is printed; or a replay did its first events
pub data RowOrReplay {V : Type 0} (i : BusInputs) (d : CommandDisks V) (e : Ending) : Type 0 where
  in_row : EndsInRow (ComesInRun i d) e → RowOrReplay i d e
  replayed : (result : Result (Unit {0}) Unwritten) → ReplaysScript i d.states e result → RowOrReplay i d e
