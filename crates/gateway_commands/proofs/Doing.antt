-- The second phase, put together
use Rattle.std.specs.Prelude.{ℕ, List}
use Rattle.program_edge.specs.Endings.{Ending}
use Rattle.program_edge.proofs.CallerLemmas.{EndsInRow-more}
use Rattle.bus_machine.specs.declared.events.Event.{Event}
use Rattle.bus_config.specs.Buses.{NamedBus}
use Rattle.bus_world.specs.StartAnswers.{DiskStates}
use Rattle.bus_programs.specs.Inputs.{BusInputs}
use Rattle.gateway_commands.specs.Inputs.{SetsGateway}
use Rattle.gateway_commands.specs.Rows.{not_started, EndsGateway, in_row, ran}
use Rattle.gateway_commands.specs.Steps.{DoesGateway, refused_start, first_done}

-- a job that was done
pub ends_job : (same : Type 0) (i : BusInputs) (d : DiskStates) (e : Ending) (bus : NamedBus) (pairs : List (ℕ × ℕ)) (events : List Event)
    → SetsGateway i bus pairs events → DoesGateway same bus pairs events d e → EndsGateway same i d e
ends_job same i d e bus pairs events set (refused_start ends) =
    in_row (EndsInRow-more (λ row start. not_started row (bus, pairs, events, set, start.0) start.1) ends)
ends_job same i d e bus pairs events set (first_done result done) = ran result (bus, pairs, events, set, done)
