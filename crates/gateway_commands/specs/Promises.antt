-- What a gateway promises
use Rattle.std.specs.Prelude.{◌≡◌, ◌⊎◌, ℕ, List, [], drop, length, Result, Ok, Err, codes}
use Rattle.program_edge.specs.declared.input.InputFault.TheVariants.{ReadFault, TooLong}
use Rattle.text_lines.specs.Readings.{Fault}
use Rattle.text_lines.specs.Texts.{fault_text_of}
use Rattle.program_edge.specs.Rows.{Row, memory_row}
use Rattle.program_edge.specs.Inputs.{IsUnread, CountsFault, CountsTooMuch, Offers}
use Rattle.program_edge.specs.Endings.{Ending, EndsInRow, EndsIn, MayEndIn, PrintsWhole, PrintsFront, SinkFailed}
use Rattle.program_edge.specs.Endings.{CountsWriteFault}
use Rattle.run_driver.specs.declared.printing.Unwritten.{Unwritten}
use Rattle.run_driver.specs.declared.printing.Unwritten.TheVariants as unwritten
use Rattle.bus_config.specs.declared.fault.ConfigFault.{ConfigFault}
use Rattle.bus_config.specs.BusFile.{bus_of}
use Rattle.bus_machine.specs.declared.events.Event.{Event}
use Rattle.bus_config.specs.Buses.{NamedBus}
use Rattle.bus_script.specs.EventForms.{own_events_of}
use Rattle.bus_world.specs.declared.start.Start.TheVariants.{Format}
use Rattle.bus_world.specs.declared.start.StartFault.{StartFault}
use Rattle.bus_world.specs.Starts.{HasRoom, FindsRoom}
use Rattle.bus_world.specs.StartRows.{start_row, StoreCause, LeavesEach}
use Rattle.bus_world.specs.StartAnswers.{DiskStates, ComesOfStart, BusHasDisks, CountsDiskFault, failed_row}
use Rattle.bus_programs.specs.BusFiles.{OffersBus}
use Rattle.gateway_commands.specs.Words.{AsksGateway, AsksNoGateway}
use Rattle.gateway_commands.specs.Texts.{gateway_usage}
use Rattle.bus_programs.specs.Inputs.{BusInputs}
use Rattle.gateway_commands.specs.Inputs.{NoGatewayConfig, NoGatewayScript, RefusesPairs, RefusesConfig}
use Rattle.gateway_commands.specs.Inputs.{OverGateway, OffersGateway}
use Rattle.gateway_commands.specs.Headline.{TellsFirst, OneGatewayRun}
use Rattle.gateway_commands.specs.Rows.{ScriptHasFault, RowOfInputs, DoneGateway, EndsGateway}

-- a proper prefix was written of the text of a row that comes, as the sink failed; or nothing, as there was no memory
abbrev pub CutShort : (Row → Type 0) → Ending → Unwritten → Type 0
CutShort Comes e unwritten.SinkFailed = PrintsFront Comes e
CutShort Comes e unwritten.Memory = Comes memory_row × PrintsWhole e []

-- what is printed and done if the sink fails, or memory is out. The arguments are of another form, or an input isn't
-- valid, wasn't read to its end or found no memory, and every disk is as before. Or the first is as before, or stands
-- in every image for the first node's cells, or its count rose. Or the first events were done, with the texts of all
-- their lines but the last, and a prefix of this one
pub data EndsEarly (same : Type 0) (i : BusInputs) (d : DiskStates) (e : Ending) (cause : Unwritten) : Type 0 where
  unprepared : same → CutShort (RowOfInputs i) e cause → EndsEarly same i d e cause
  unstarted : OverGateway i
      (λ bus pairs events. LeavesEach Format bus d.before d.after × CutShort (ComesOfStart Format bus d) e cause)
      → EndsEarly same i d e cause
  begun : OverGateway i (λ bus pairs events. DoneGateway bus pairs events d e (Err cause)) → EndsEarly same i d e cause

-- what a gateway promises that has these inputs and disks and ends so, in the order of the table of answers; `same` is
-- that every disk is as before
pub record RunsGateway (same : Type 0) (i : BusInputs) (d : DiskStates) (e : Ending) : Type 0 where
  -- A row of the table comes; or of valid inputs the first events were done.
  pub ends : EndsGateway same i d e
  -- No disk is lost, and all but the first are as before at every status.
  pub as_many : length d.after ≡ length d.before
  pub further : drop 1 d.after ≡ drop 1 d.before
  -- Every disk is as before at the status 2, 3, 4, 5, 8 and 9.
  pub disks_unused : (e.status ≡ 2) ⊎ (e.status ≡ 3) ⊎ (e.status ≡ 4) ⊎ (e.status ≡ 5) ⊎ (e.status ≡ 8)
      ⊎ (e.status ≡ 9) → same
  -- 0: the inputs were read whole, and all events were done, with the text of each line.
  pub done : e.status ≡ 0 → OverGateway i (λ bus pairs events. DoneGateway bus pairs events d e (Ok tt))
  -- Over a disk that tells its bytes they are one run of the machine from the first node of the bus. One record has all
  -- that holds of it.
  pub is_a_run : e.status ≡ 0 → TellsFirst d.before
      → OverGateway i (λ bus pairs events. OneGatewayRun bus pairs d.before d.after events e.before e.after (Ok tt))
  -- 2: exactly if the arguments are of another form; nothing was read.
  pub usage_told : e.status ≡ 2
      → AsksNoGateway i.words × IsUnread i.config × IsUnread i.script × PrintsWhole e gateway_usage
  pub usage_only : AsksNoGateway i.words → EndsIn 2 e
  -- 3: the bus file was read whole, and is refused for its first fault, or its number of nodes, or the lowest pair that
  -- isn't taken; of the script nothing was read.
  pub config_refused : e.status ≡ 3 → IsUnread i.script × ((pairs : List (ℕ × ℕ)) × AsksGateway i.words pairs
      × ((text : List ℕ) × RefusesConfig i.config pairs text × PrintsWhole e text))
  pub config_refused_only : (pairs : List (ℕ × ℕ)) (file : List ℕ) (fault : ConfigFault) → AsksGateway i.words pairs
      → Offers i.config file → bus_of file ≡ Err fault → MayEndIn 3 e
  pub pairs_refused_only : (pairs : List (ℕ × ℕ)) (bus : NamedBus) (text : List ℕ) → AsksGateway i.words pairs
      → OffersBus i.config bus → RefusesPairs bus pairs text → MayEndIn 3 e
  -- 4: the inputs were read whole, and the first fault of the script is printed.
  pub refused : e.status ≡ 4 → (fault : Fault) × ScriptHasFault i fault × PrintsWhole e (fault_text_of fault)
  pub refused_only : (bus : NamedBus) (pairs : List (ℕ × ℕ)) (input : List ℕ) (fault : Fault)
      → OffersGateway i bus pairs
      → Offers i.script input → own_events_of bus.nodes input ≡ Err fault → MayEndIn 4 e
  -- 5: exactly if the count of faults rose of the source that was read.
  pub read_fault : e.status ≡ 5
      → (NoGatewayConfig i ReadFault ⊎ NoGatewayScript i ReadFault) × PrintsWhole e (codes "read fault\n")
  pub read_fault_only : CountsFault i.config ⊎ CountsFault i.script → EndsIn 5 e
  -- 6: exactly if the sink's count of faults rose.
  pub write_fault : e.status ≡ 6 → SinkFailed e × EndsEarly same i d e unwritten.SinkFailed
  pub write_fault_only : CountsWriteFault e → e.status ≡ 6
  -- 7: out of memory comes.
  pub no_memory : e.status ≡ 7 → EndsEarly same i d e unwritten.Memory
  -- 8: exactly if one byte more than an input may have came from a source.
  pub too_long : e.status ≡ 8
      → (NoGatewayConfig i TooLong ⊎ NoGatewayScript i TooLong) × PrintsWhole e (codes "input too long\n")
  pub too_long_only : CountsTooMuch i.config ⊎ CountsTooMuch i.script → EndsIn 8 e
  -- 9: exactly if there is no disk, or the first is too small; every disk is as before.
  pub disks_refused : e.status ≡ 9 → OverGateway i (λ bus pairs events. (d.after ≡ d.before)
      × ((fault : StartFault) × FindsRoom bus d.before fault × PrintsWhole e (start_row fault).text))
  pub disks_refused_only : (bus : NamedBus) (pairs : List (ℕ × ℕ)) (input : List ℕ) (events : List Event)
      → OffersGateway i bus pairs → Offers i.script input → own_events_of bus.nodes input ≡ Ok events
      → ¬ HasRoom bus d.before → MayEndIn 9 e
  -- 10: the disk failed, and wasn't quiet; over a disk that doesn't tell its bytes also what was read again.
  pub store_refused : e.status ≡ 10 → OverGateway i (λ bus pairs events. LeavesEach Format bus d.before d.after
      × ((fault : StartFault) × StoreCause Format bus d.before d.after fault × PrintsWhole e (start_row fault).text))
  -- If the count of faults of a disk rose, the status is 10 with the row of its node, or 6 with a prefix of it. Or the
  -- ending is one of a gateway that was started. (If a disk's past isn't told, a failed start may look like a first
  -- event that failed. That a start answers out of memory only if no count rose is a clause of `open_nodes`.)
  pub failed_disk_told : (place : ℕ) → CountsDiskFault d place → EndsInRow (λ row. row ≡ failed_row place) e
      ⊎ ((result : Result (Unit {0}) Unwritten)
      × OverGateway i (λ bus pairs events. DoneGateway bus pairs events d e result))
  -- What is valid is done, if no port failed and there was memory.
  pub complete : (bus : NamedBus) (pairs : List (ℕ × ℕ)) (input : List ℕ) (events : List Event)
      → OffersGateway i bus pairs → Offers i.script input → own_events_of bus.nodes input ≡ Ok events
      → BusHasDisks Format bus d → ¬ SinkFailed e → (e.status ≡ 0) ⊎ (e.status ≡ 7)
