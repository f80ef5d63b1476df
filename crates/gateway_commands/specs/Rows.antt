-- The table of answers of a gateway: its rows, and when each comes
use Rattle.std.specs.Prelude.{◌≡◌, ℕ, List, Err, Result}
use Rattle.program_edge.specs.declared.input.InputFault.{InputFault}
use Rattle.program_edge.specs.Rows.{Row, row_of, input_row}
use Rattle.program_edge.specs.Inputs.{IsUnread}
use Rattle.program_edge.specs.Endings.{Ending, EndsInRow}
use Rattle.text_lines.specs.LineRows.{line_row}
use Rattle.text_lines.specs.Readings.{Fault}
use Rattle.run_driver.specs.declared.printing.Unwritten.{Unwritten}
use Rattle.program_edge.specs.Inputs.{ReadsWhole}
use Rattle.bus_machine.specs.declared.events.Event.{Event}
use Rattle.bus_config.specs.Buses.{NamedBus}
use Rattle.bus_script.specs.EventForms.{own_events_of}
use Rattle.bus_world.specs.declared.start.Start.TheVariants.{Format}
use Rattle.bus_world.specs.StartAnswers.{DiskStates, ComesOfStart}
use Rattle.run_driver.specs.Statuses.{unwritten_status}
use Rattle.gateway_commands.specs.Words.{AsksGateway, AsksNoGateway}
use Rattle.gateway_commands.specs.Texts.{gateway_usage}
use Rattle.bus_programs.specs.Inputs.{BusInputs}
use Rattle.gateway_commands.specs.Inputs.{NoGatewayConfig, NoGatewayScript, RefusesConfig, SetsPairs}
use Rattle.gateway_commands.specs.Inputs.{OverGateway}
use Rattle.gateway_commands.specs.Runs.{RanGateway}
use Rattle.gateway_commands.specs.Headline.{TellsFirst, OneGatewayRun, GatewayDisksStay, gateway_seen}

-- all was read whole up to the script's last byte, and this is the script's first fault
pub record ScriptHasFault (i : BusInputs) (fault : Fault) : Type 0 where
  pub bus : NamedBus
  pub pairs : List (ℕ × ℕ)
  pub set : SetsPairs i bus pairs
  pub text : List ℕ
  pub whole : ReadsWhole i.script text
  pub is : own_events_of bus.nodes text ≡ Err fault

-- the rows for which the disk isn't used
pub data RowOfInputs (i : BusInputs) : Row → Type 0 where
  no_form : AsksNoGateway i.words → IsUnread i.config → IsUnread i.script → RowOfInputs i (row_of 2 gateway_usage)
  no_config : (fault : InputFault) → NoGatewayConfig i fault → RowOfInputs i (input_row fault)
  config_refused : (pairs : List (ℕ × ℕ)) (text : List ℕ) → AsksGateway i.words pairs
      → RefusesConfig i.config pairs text
      → IsUnread i.script → RowOfInputs i (row_of 3 text)
  no_script : (fault : InputFault) → NoGatewayScript i fault → RowOfInputs i (input_row fault)
  script_refused : (fault : Fault) → ScriptHasFault i fault → RowOfInputs i (line_row fault)

-- the table: when each row comes, and what the disks are then; `same` is that every disk is as before
pub data RowOfGateway (same : Type 0) (i : BusInputs) (d : DiskStates) : Row → Type 0 where
  without_disks : (row : Row) → RowOfInputs i row → same → RowOfGateway same i d row
  not_started : (row : Row) → OverGateway i (λ bus pairs events. ComesOfStart Format bus d row)
      → (row.status ≡ 9 → same) → RowOfGateway same i d row

-- The first events were done, up to the first whose text wasn't written, and the status says so. What the disks keep is
-- said whether the first tells its bytes or not. Over a disk that tells its bytes they are one run of the machine, and
-- all of `OneGatewayRun` holds of it.
pub record DoneGateway (bus : NamedBus) (pairs : List (ℕ × ℕ)) (events : List Event) (d : DiskStates) (e : Ending)
    (result : Result (Unit {0}) Unwritten) : Type 0 where
  pub ran : RanGateway bus pairs d.before d.after events e.before e.after result
  pub status_is : e.status ≡ unwritten_status result
  pub stay : GatewayDisksStay d.before d.after (gateway_seen ran.printed.moments)
  pub one_run : TellsFirst d.before → OneGatewayRun bus pairs d.before d.after events e.before e.after result

-- how a gateway ends: in a row of the table, which is printed; or it did its first events
pub data EndsGateway (same : Type 0) (i : BusInputs) (d : DiskStates) (e : Ending) : Type 0 where
  in_row : EndsInRow (RowOfGateway same i d) e → EndsGateway same i d e
  ran : (result : Result (Unit {0}) Unwritten)
      → OverGateway i (λ bus pairs events. DoneGateway bus pairs events d e result) → EndsGateway same i d e
