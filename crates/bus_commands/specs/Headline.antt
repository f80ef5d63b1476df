-- What holds of a replay over disks that tell their bytes
use Rattle.cut_disk.specs.State.{DiskState}
use Rattle.std.specs.Prelude.{◌≡◌, List, Result}
use Rattle.bus_port.specs.Sink.{SinkState}
use Rattle.run_driver.specs.declared.printing.Unwritten.{Unwritten}
use Rattle.run_driver.specs.Printed.{Written}
use Rattle.bus_machine.specs.declared.events.Event.{Event}
use Rattle.bus_machine.specs.Bus.{World, First, Moments}
use Rattle.bus_config.specs.Buses.{NamedBus, configs_of}
use Rattle.bus_script.specs.LineTexts.{line_text}
use Rattle.bus_world.specs.declared.start.Start.{Start}
use Rattle.bus_world.specs.declared.start.Start.TheVariants.{Format, Attach}
use Rattle.bus_world.specs.Starts.{StartsOver}
use Rattle.bus_world.specs.NodeDisks.{TellEach}
use Rattle.bus_world.specs.WorldRuns.{WorldRun}
use Rattle.bus_world.specs.WorldTurns.{TellFirm}
use Rattle.bus_commands.specs.Replays.{ReplayTurns}

-- a replay from this first world: a run, the texts of whose lines were written
pub record Replayed (first : World) (bus : NamedBus) (before after : List DiskState) (events : List Event)
    (sink_before sink_after : SinkState) (result : Result (Unit {0}) Unwritten) : Type 0 where
  pub moments : Moments
  pub last : World
  pub run : WorldRun first bus before after events moments last
  pub written : Written line_text sink_before sink_after events result moments

-- the disk of each node tells its bytes; if they are attached, none of them is loose
abbrev pub TellFor : Start → NamedBus → List DiskState → Type 0
TellFor Format bus disks = TellEach bus disks
TellFor Attach bus disks = TellFirm bus disks

-- where a replay begins: at the first world of the bus, or at one in which the bus goes on over its disks
abbrev pub BeginsOver : Start → NamedBus → List DiskState → World → Type 0
BeginsOver Format bus disks first = first ≡ First (configs_of bus)
BeginsOver Attach bus disks first = StartsOver bus disks first

-- what was done of a replay is one run from there
pub record ReplayedOver (start : Start) (bus : NamedBus) (before after : List DiskState) (events : List Event)
    (sink_before sink_after : SinkState) (result : Result (Unit {0}) Unwritten) : Type 0 where
  pub first : World
  pub begins : BeginsOver start bus before first
  pub replayed : Replayed first bus before after events sink_before sink_after result

-- what was done of a replay over disks that tell their bytes is one run
abbrev pub ReplaysAreRuns : Type 0
ReplaysAreRuns = (start : Start) (bus : NamedBus) (before after : List DiskState) (events : List Event)
    (sink_before sink_after : SinkState) (result : Result (Unit {0}) Unwritten)
    → ReplayTurns start bus before after events sink_before sink_after result → TellFor start bus before
    → ReplayedOver start bus before after events sink_before sink_after result
