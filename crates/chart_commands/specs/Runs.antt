-- The run whose chart is drawn (own)
use Rattle.std.specs.Prelude.{◌≡◌, Option, None, Some, List, [], ◌++◌, length, drop}
use Rattle.cut_disk.specs.State.{DiskState}
use Rattle.machine_runs.specs.Run.{Moment, lines_in}
use Rattle.run_driver.specs.Driven.{FirstDone}
use Rattle.bus_machine.specs.declared.events.Event.{Event}
use Rattle.bus_machine.specs.declared.lines.Line.{Line}
use Rattle.bus_machine.specs.Bus.{World, First, Moments}
use Rattle.bus_config.specs.Buses.{NamedBus, IsNamedBus, configs_of}
use Rattle.bus_world.specs.declared.start.Start.TheVariants.{Format}
use Rattle.bus_world.specs.Worlds.{BusState, BusTurn}
use Rattle.bus_world.specs.Starts.{Started, disks_of}
use Rattle.bus_world.specs.NodeDisks.{TellEach}
use Rattle.bus_world.specs.WorldRuns.{WorldRun}

-- all events were done, and these are their lines; or there was no memory to keep them, and no event was done
abbrev pub KeepsLines : {S : Type 0} → List Event → Option (List Line) → List (Moment Event Line S) → Type 0
KeepsLines events (Some lines) moments = (length moments ≡ length events) × (lines ≡ lines_in moments)
KeepsLines events None moments = moments ≡ []

-- ---- over disks of any kind

-- the events were done as turns, and these are the lines that were kept of them, or none was
abbrev pub KeptTurns : BusState → BusState → List Event → Option (List Line) → Type 0
KeptTurns start now events kept = FirstDone BusTurn start now events (KeepsLines events kept)

-- the bus was started, and took the turns of the events, or of none; the disks are back in their order
pub record ChartTurns (bus : NamedBus) (before after : List DiskState) (events : List Event)
    (kept : Option (List Line)) : Type 0 where
  pub is_bus : IsNamedBus bus
  pub start : BusState
  pub now : BusState
  pub started : Started Format bus (length events) before start
  pub turns : KeptTurns start now events kept
  pub disks : after ≡ disks_of now.nodes ++ drop (length bus.nodes) before

-- ---- over disks that tell their bytes

-- a run of the events, or of none, from the first world of the bus, with all that holds of a replay's. These are the
-- lines that were kept of it
pub record Charted (bus : NamedBus) (before after : List DiskState) (events : List Event)
    (kept : Option (List Line)) : Type 0 where
  pub moments : Moments
  pub last : World
  pub run : WorldRun (First (configs_of bus)) bus before after events moments last
  pub whole : KeepsLines events kept moments

-- what was done of a chart over disks that tell their bytes has all of this
abbrev pub ChartsAreRuns : Type 0
ChartsAreRuns = (bus : NamedBus) (before after : List DiskState) (events : List Event) (kept : Option (List Line))
    → ChartTurns bus before after events kept → TellEach bus before → Charted bus before after events kept
