-- The headline's record, and the one that `chart` and the lives of a bus share
use Rattle.std.specs.Prelude.{List}
use Rattle.bus_machine.specs.declared.events.Event.{Event}
use Rattle.bus_machine.specs.Bus.{World, Moments}
use Rattle.bus_config.specs.Buses.{NamedBus}
use Rattle.bus_world.specs.StartAnswers.{DiskStates}
use Rattle.bus_world.specs.WorldRuns.{WorldRun}
use Rattle.bus_commands.specs.Commands.{HeadlineRun}

-- each gives the other: of a replay's or a trial's run holds what holds of a run of a bus
abbrev pub HeadlineIsWorldRun : Type 0
HeadlineIsWorldRun = (first : World) (bus : NamedBus) (d : DiskStates) (events : List Event) (moments : Moments)
    (last : World)
    → (WorldRun first bus d.before d.after events moments last → HeadlineRun first bus d events moments last)
    × (HeadlineRun first bus d events moments last → WorldRun first bus d.before d.after events moments last)
