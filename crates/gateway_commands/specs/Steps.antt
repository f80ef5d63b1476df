-- What the steps of the work say to one another
use Rattle.std.specs.Prelude.{◌≡◌, ℕ, ◌<◌, Bool, true, false, Option, None, Some, List, [], length}
use Rattle.std.specs.Prelude.{slice_index_or}
use Rattle.std.specs.Prelude.{Result, Ok, Err, Vec}
use Rattle.std.specs.declared.alloc.Global.{Global}
use Rattle.program_edge.specs.Rows.{Row, row_of}
use Rattle.program_edge.specs.Endings.{Ending, EndsInRow}
use Rattle.bus_port.specs.Sink.{SinkState}
use Rattle.run_driver.specs.declared.printing.Unwritten.{Unwritten}
use Rattle.run_driver.specs.Printed.{Printed}
use Rattle.bus_machine.specs.declared.events.Event.{Event}
use Rattle.bus_config.specs.Buses.{NamedBus, IsNamedBus}
use Rattle.bus_world.specs.declared.start.Start.TheVariants.{Format}
use Rattle.bus_world.specs.StartAnswers.{DiskStates, ComesUnstarted}
use Rattle.bus_programs.specs.Scripts.{AreEvents}
use Rattle.secoc_node.specs.State.{NodeState}
use Rattle.secoc_gateway.specs.State.{GatewayState, over}
use Rattle.secoc_gateway.specs.Pairs.{pair_in}
use Rattle.secoc_gateway.specs.Turns.{GatewayTurn}
use Rattle.gateway_commands.specs.declared.job.GatewayJob.{GatewayJob}
use Rattle.gateway_commands.specs.Words.{pair_form, AsksGateway, AsksNoGateway}
use Rattle.gateway_commands.specs.Texts.{gateway_text}
use Rattle.bus_programs.specs.Inputs.{BusInputs}
use Rattle.gateway_commands.specs.Inputs.{TakesPairs, RefusesPairs, SetsGateway}
use Rattle.gateway_commands.specs.Rows.{RowOfInputs, DoneGateway}

-- ---- the words

-- each word is that of the pair in its place; or one is of another form
abbrev pub HasPairs : List (List ℕ) → List (ℕ × ℕ) → Bool → Type 0
HasPairs given room true = (k : ℕ) → k < length given → pair_form (slice_index_or given k []) ≡ Some (pair_in room k)
HasPairs given room false = (k : ℕ) × (k < length given) × (pair_form (slice_index_or given k []) ≡ None)

-- the words are those of a gateway with these pairs, or are of another form
abbrev pub AsksPairs : List (List ℕ) → Option (Vec (ℕ × ℕ) Global) → Type 0
AsksPairs words (Some pairs) = AsksGateway words pairs.items
AsksPairs words None = AsksNoGateway words

-- ---- the bus

-- the bus takes the pairs, or is refused
abbrev pub ChecksPairs : NamedBus → List (ℕ × ℕ) → Result (Unit {0}) Row → Type 0
ChecksPairs bus pairs (Ok _) = TakesPairs bus pairs
ChecksPairs bus pairs (Err row) = (text : List ℕ) × RefusesPairs bus pairs text × (row ≡ row_of 3 text)

-- ---- the first phase

-- the job is over a bus, and has events such as a script has
pub record IsWholeJob (job : GatewayJob) : Type 0 where
  pub is_bus : IsNamedBus job.bus
  pub takes : TakesPairs job.bus job.pairs.items
  pub events : AreEvents job.bus job.events.items

-- how the first phase ends: in a job over inputs that were read whole, or in a row that comes
abbrev pub PreparesGateway : BusInputs → Result GatewayJob Row → Type 0
PreparesGateway i (Ok job) = IsWholeJob job × SetsGateway i job.bus job.pairs.items job.events.items
PreparesGateway i (Err row) = RowOfInputs i row

-- ---- the second phase

-- a gateway over this node with these pairs took the turns of the first events, and its node is handed back
pub record PrintsTurns (before : NodeState) (pairs : List (ℕ × ℕ)) (events : List Event)
    (sink_before sink_after : SinkState)
    (after : NodeState) (result : Result (Unit {0}) Unwritten) : Type 0 where
  pub start : GatewayState
  pub now : GatewayState
  pub over_node : over start ≡ before
  pub pairs_are : start.pairs ≡ pairs
  pub printed : Printed GatewayTurn gateway_text start now sink_before sink_after events result
  pub handed_back : over now ≡ after

-- how a job ends: it isn't started, or it did its first events; `same` is that every disk is as before
pub data DoesGateway (same : Type 0) (bus : NamedBus) (pairs : List (ℕ × ℕ)) (events : List Event) (d : DiskStates)
    (e : Ending) : Type 0 where
  refused_start : EndsInRow (ComesUnstarted same Format bus d) e → DoesGateway same bus pairs events d e
  first_done : (result : Result (Unit {0}) Unwritten) → DoneGateway bus pairs events d e result
      → DoesGateway same bus pairs events d e
