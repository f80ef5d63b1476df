-- Turns of a bus over disks, and what is known of them
use Rattle.std.specs.Prelude.{◌≡◌, ℕ, ◌<◌, ◌≤◌, Some, List, ◌++◌, length, take, drop, get_or}
use Rattle.cut_disk.specs.State.{DiskState}
use Rattle.cut_disk.specs.Images.{firm}
use Rattle.any_cells.specs.Either.{layout}
use Rattle.store_keeping.specs.DiskTurns.{OpenedDisk}
use Rattle.machine_runs.specs.Run.{Moment, Run, seen_as, commands_in}
use Rattle.bus_machine.specs.declared.events.Event.{Event}
use Rattle.bus_machine.specs.declared.lines.Line.{Line}
use Rattle.bus_machine.specs.Bus.{First, Moments}
use Rattle.bus_config.specs.Buses.{NamedBus, IsNamedBus, configs_of}
use Rattle.bus_world.specs.Turns.{NodeState}
use Rattle.bus_world.specs.declared.start.Start.{Start}
use Rattle.bus_world.specs.declared.start.Start.TheVariants.{Format, Attach}
use Rattle.bus_world.specs.Worlds.{BusState, world_of, BusTurn, EachFits}
use Rattle.bus_world.specs.Starts.{Started, StartsOver, disks_of}
use Rattle.bus_world.specs.NodeDisks.{TellEach, DisksStay}
use Rattle.bus_world.specs.WorldRuns.{IsFirstOf, WorldRun}

-- the moments over disks as those of the machine
abbrev pub seen : List (Moment Event Line BusState) → Moments
seen moments = seen_as (λ event. event) world_of moments

-- the nodes of the bus are open, each over its disk, which was called without a mark or a failure
pub record SetUp (bus : NamedBus) (before : List DiskState) (start : BusState) : Type 0 where
  pub enough : length bus.nodes ≤ length before
  pub count : length start.nodes ≡ length bus.nodes
  pub layout_is : (i : ℕ) (n : NodeState) → i < length bus.nodes
      → (get_or start.nodes i n).store.layout ≡ layout bus.kind bus.version
  pub opened : (i : ℕ) (d : DiskState) (n : NodeState) → i < length bus.nodes
      → (few : ℕ) × OpenedDisk few (get_or before i d) (get_or start.nodes i n).store.disk

-- the first of these events were done as turns, and the disks are back in their order
pub record TakesTurns (bus : NamedBus) (before after : List DiskState) (events : List Event)
    (start : BusState) (moments : List (Moment Event Line BusState)) (now : BusState) : Type 0 where
  pub run : Run BusTurn start moments now
  pub of_events : commands_in moments ≡ take (length moments) events
  pub disks : after ≡ disks_of now.nodes ++ drop (length bus.nodes) before

-- turns over disks of any kind leave each of them so
abbrev pub TurnsLeaveDisks : Type 0
TurnsLeaveDisks = (bus : NamedBus) (before after : List DiskState) (events : List Event)
    (start : BusState) (moments : List (Moment Event Line BusState)) (now : BusState)
    → SetUp bus before start → TakesTurns bus before after events start moments now
    → DisksStay bus before after (seen moments)

-- turns over disks that tell their bytes and fit, from a first world, are a run with all that holds of one
abbrev pub TurnsAreWorldRuns : Type 0
TurnsAreWorldRuns = (bus : NamedBus) (before after : List DiskState) (events : List Event)
    (start : BusState) (moments : List (Moment Event Line BusState)) (now : BusState)
    → SetUp bus before start → EachFits start → IsFirstOf bus (world_of start)
    → TakesTurns bus before after events start moments now
    → WorldRun (world_of start) bus before after events (seen moments) (world_of now)

-- ---- starts

-- a bus that was started is set up
abbrev pub StartsSetUp : Type 0
StartsSetUp = (how : Start) (bus : NamedBus) (most : ℕ) (before : List DiskState) (start : BusState)
    → Started how bus most before start → SetUp bus before start

-- over formatted disks that tell their bytes it begins at the first world of the bus, and they fit
pub record BeginsAtFirst (bus : NamedBus) (start : BusState) : Type 0 where
  pub fits : EachFits start
  pub first : world_of start ≡ First (configs_of bus)
  pub is_first : IsFirstOf bus (First (configs_of bus))

abbrev pub StartsBeginAtFirst : Type 0
StartsBeginAtFirst = (bus : NamedBus) (most : ℕ) (before : List DiskState) (start : BusState)
    → IsNamedBus bus → Started Format bus most before start → TellEach bus before → BeginsAtFirst bus start

-- the disk of each node tells its bytes, and none of them is loose
abbrev pub TellFirm : NamedBus → List DiskState → Type 0
TellFirm bus disks =
    (i : ℕ) (d : DiskState) → i < length bus.nodes → (b : List ℕ) × ((get_or disks i d).told ≡ Some (firm b))

-- over disks that were attached and tell bytes, none of them loose, it goes on where they stand: at a first world,
-- which they fit
pub record GoesOnFirst (bus : NamedBus) (before : List DiskState) (start : BusState) : Type 0 where
  pub fits : EachFits start
  pub goes_on : StartsOver bus before (world_of start)
  pub is_first : IsFirstOf bus (world_of start)

abbrev pub StartsGoOnFirst : Type 0
StartsGoOnFirst = (bus : NamedBus) (most : ℕ) (before : List DiskState) (start : BusState)
    → IsNamedBus bus → Started Attach bus most before start → TellFirm bus before → GoesOnFirst bus before start
