-- A trial: a run of the events that a seed gives, over formatted disks, and its summary (own)
use Rattle.std.specs.Prelude.{◌≡◌, List, ◌++◌, length, drop}
use Rattle.cut_disk.specs.State.{DiskState}
use Rattle.machine_runs.specs.Run.{commands_in, lines_in}
use Rattle.run_driver.specs.Driven.{FirstDone}
use Rattle.bus_machine.specs.declared.events.Event.{Event}
use Rattle.bus_machine.specs.Bus.{World, First, Moments}
use Rattle.bus_config.specs.Buses.{NamedBus, IsNamedBus, configs_of}
use Rattle.bus_world.specs.declared.start.Start.TheVariants.{Format}
use Rattle.bus_world.specs.Worlds.{BusState, BusTurn}
use Rattle.bus_world.specs.Starts.{Started, disks_of}
use Rattle.bus_world.specs.NodeDisks.{TellEach}
use Rattle.bus_world.specs.WorldRuns.{WorldRun}
use Rattle.bus_commands.specs.declared.summary.Summary.{Summary}
use Rattle.bus_commands.specs.Summaries.{summary_of}

-- ---- over disks of any kind

-- all events were done as turns, and the numbers are those of their lines
abbrev pub SummedTurns : BusState → BusState → List Event → Summary → Type 0
SummedTurns start now events summary =
    FirstDone BusTurn start now events
    (λ moments. (length moments ≡ length events) × (summary ≡ summary_of (lines_in moments)))

-- the bus was started, and took the turns of all events, whose lines have this summary; the disks are back in their
-- order
pub record TrialTurns (bus : NamedBus) (before after : List DiskState) (events : List Event)
    (summary : Summary) : Type 0 where
  pub is_bus : IsNamedBus bus
  pub start : BusState
  pub now : BusState
  pub started : Started Format bus (length events) before start
  pub turns : SummedTurns start now events summary
  pub disks : after ≡ disks_of now.nodes ++ drop (length bus.nodes) before

-- ---- over disks that tell their bytes

-- a trial: a run of all the events from the first world of the bus, and the seven numbers are over its lines
pub record Tried (bus : NamedBus) (before after : List DiskState) (events : List Event)
    (summary : Summary) : Type 0 where
  pub moments : Moments
  pub last : World
  pub run : WorldRun (First (configs_of bus)) bus before after events moments last
  pub whole : commands_in moments ≡ events
  pub numbers : summary ≡ summary_of (lines_in moments)

-- what was done of a trial over disks that tell their bytes has all of this
abbrev pub TrialsAreRuns : Type 0
TrialsAreRuns = (bus : NamedBus) (before after : List DiskState) (events : List Event) (summary : Summary)
    → TrialTurns bus before after events summary → TellEach bus before → Tried bus before after events summary
