-- The lives of a bus: its runs, one after another over the same disks
use Rattle.std.specs.Prelude.{◌≡◌, ℕ, ◌<◌, ◌⊎◌, Some, List, [], ◌∷◌, ◌++◌, length, map, take, get_or, AllPairs}
pub use Rattle.key_slots.specs.declared.memory.Slot.{Slot}
pub use Rattle.cut_disk.specs.State.{DiskState, Told}
pub use Rattle.cut_disk.specs.Images.{Image, firm}
use Rattle.cut_disk.specs.Images.{CutsTo}
use Rattle.cell_store.specs.declared.kinds.Kind.{Kind}
use Rattle.cell_store.specs.declared.kinds.Version.{Version}
use Rattle.cell_store.specs.declared.kinds.Version.TheVariants.{One, Two}
use Rattle.cell_store.specs.declared.faults.Reread.TheVariants as reread
use Rattle.cell_store.specs.Layout.{layout}
use Rattle.cell_store.specs.Moving.{CountsAs}
use Rattle.any_cells.specs.declared.looking.Found.TheVariants.{Older}
use Rattle.any_cells.specs.Looking.{IsFound}
use Rattle.machine_runs.specs.Run.{Moment, Run, commands_in}
use Rattle.bus_machine.specs.declared.events.Event.{Event}
use Rattle.bus_machine.specs.declared.lines.Line.{Line}
use Rattle.bus_machine.specs.Node.{Node}
use Rattle.bus_machine.specs.Steps.{PowersUp}
use Rattle.bus_machine.specs.Bus.{World, First, Instant, Moments, Step, node_at}
use Rattle.bus_machine.specs.Freshness.{Rising, Single}
use Rattle.bus_machine.specs.KeysKept.{slot_in, Acknowledges, FailsUpdate, GoesOn}
pub use Rattle.bus_config.specs.declared.node_lines.NodeLine.{NodeLine}
pub use Rattle.bus_config.specs.Buses.{NamedBus, IsNamedBus}
use Rattle.bus_config.specs.Buses.{configs_of}
use Rattle.bus_world.specs.declared.start.Start.TheVariants.{Attach}
use Rattle.bus_world.specs.declared.start.StartFault.{StartFault}
use Rattle.bus_world.specs.declared.start.StartFault.TheVariants as start_fault
use Rattle.bus_world.specs.Worlds.{BusState, world_of}
use Rattle.bus_world.specs.TakingUp.{cells_in}
use Rattle.bus_world.specs.Starts.{Started, NotStarted, StartsOver}
use Rattle.bus_world.specs.StartRows.{CanStart}
use Rattle.bus_world.specs.Turns.{FitsNode}
use Rattle.bus_world.specs.WorldRuns.{IsFirstOf, WorldRun}
use Rattle.bus_world.specs.WorldTurns.{seen, TakesTurns, TellFirm}

-- One life of a bus: the bus as it then was, the disks that it found, its first world, its events, its moments, and the
-- world and the disks that they left. The program prints the lines of the moments, in order, for as long as it lives.
-- One that is killed between two calls of its disks has printed a prefix of the lines of a life. One that is killed
-- within an event has printed a prefix of those of another life: that event's next call was stopped in it, as by an
-- event `stop`.
pub record Life : Type 0 where
  pub bus : NamedBus
  pub before : List DiskState
  pub first : World
  pub events : List Event
  pub moments : Moments
  pub last : World
  pub after : List DiskState

-- the disk tells bytes that stand, whatever a power cut leaves of them, for what this node of a bus keeps
pub record TellsNode (bus : NamedBus) (node : Node) (disk : DiskState) : Type 0 where
  pub now : Told
  pub told : disk.told ≡ Some now
  pub fit : FitsNode (layout bus.kind bus.version) node now

-- It is a run of the machine, from a first world of its bus, over disks that tell their bytes. A `WorldRun` is one; so
-- is a run whose events are so many that no line could tell the number of one.
pub record IsLife (life : Life) : Type 0 where
  -- Each node is sound, up and at the bounds that it keeps; a Data ID has one sender.
  pub begins : IsFirstOf life.bus life.first
  -- Each moment is a step of the machine; their events are the first of those of the life.
  pub is_a_run : Run Step life.first life.moments life.last
  pub of_events : commands_in life.moments ≡ take (length life.moments) life.events
  -- The disk of each node stands for what the node keeps at last.
  pub fit : (i : ℕ) (d : DiskState) → i < length life.bus.nodes
      → TellsNode life.bus (node_at life.last i) (get_or life.after i d)

-- ---- what a life leaves to the next

-- a disk as it is found next: as it was left, or as a power cut may leave it
abbrev pub LeftToNext : DiskState → DiskState → Type 0
LeftToNext left found = (found.told ≡ left.told) ⊎ CutsTo left.told found.told

-- the disk of each of so many nodes is found so
abbrev pub EachLeft : ℕ → List DiskState → List DiskState → Type 0
EachLeft nodes left found =
    (i : ℕ) (d : DiskState) → i < nodes → LeftToNext (get_or left i d) (get_or found i d)

-- the bytes x don't have a store of n cells that is newer than one of this version. Beside a store of version 1 the
-- header of version 2 might stand, at 32,768, and then that store counts
abbrev pub NoNewer : Kind → Version → ℕ → List ℕ → Type 0
NoNewer kind One n x = CountsAs kind n x One
NoNewer kind Two n x = Unit {0}

-- the disk of each node that tells its bytes has no newer store than the bus has
abbrev pub NoneNewer : NamedBus → List DiskState → Type 0
NoneNewer bus disks =
    (i : ℕ) (l : NodeLine) (d : DiskState) (t : Told) → i < length bus.nodes → (get_or disks i d).told ≡ Some t
    → NoNewer bus.kind bus.version (cells_in (get_or bus.nodes i l).config) t.bytes

-- ---- starts between two lives that weren't finished

-- A start between two lives that wasn't finished: the bus as it then was, the disks that it found and left, and its
-- fault. One that was killed within a disk call counts as one whose disk failed at that call, as by an event `stop`,
-- and lost its power then. One that was killed between two calls counts as one whose disk failed at the second and
-- changed nothing there.
pub record UnfinishedStart : Type 0 where
  pub bus : NamedBus
  pub before : List DiskState
  pub after : List DiskState
  pub fault : StartFault

-- one of these starts was in version 2
abbrev pub WasInTwo : List UnfinishedStart → Type 0
WasInTwo [] = ⊥
WasInTwo (start ∷ starts) = (start.bus.version ≡ Two) ⊎ WasInTwo starts

-- the stores of the bus are moved to version 2: an earlier one of these starts was to move them, or these disks have
-- none of it yet
abbrev pub MovesUp : NamedBus → List UnfinishedStart → NamedBus → List DiskState → Type 0
MovesUp bus starts next found = (next.version ≡ Two) × (WasInTwo starts ⊎ NoneNewer bus found)

-- as which bus a bus goes on over these disks, after these starts: with the same nodes over stores of the same kind, in
-- the same version or moved to version 2
pub record GoesOnAs (bus : NamedBus) (starts : List UnfinishedStart) (next : NamedBus) (found : List DiskState)
    : Type 0 where
  pub same_nodes : next.nodes ≡ bus.nodes
  pub same_kind : next.kind ≡ bus.kind
  pub version : (next.version ≡ bus.version) ⊎ MovesUp bus starts next found

-- a store of these disks that is older than the bus, so that a start may move it, has no loose byte: it hasn't after a
-- power cut, nor in a file, which is synced as it is opened
abbrev pub OlderIsFirm : NamedBus → List DiskState → Type 0
OlderIsFirm bus disks =
    (i : ℕ) (l : NodeLine) (d : DiskState) (t : Told) → i < length bus.nodes → (get_or disks i d).told ≡ Some t
    → IsFound bus.kind bus.version (cells_in (get_or bus.nodes i l).config) t.bytes Older → t ≡ firm t.bytes

-- it was refused, or a disk failed in it
pub record IsUnfinished (start : UnfinishedStart) : Type 0 where
  pub not_started : NotStarted Attach start.bus start.before start.after start.fault
  pub older_is_firm : OlderIsFirm start.bus start.before

-- The disks that are found after a bus left these, and after these starts, the latest first. Each start found them as
-- the bus or the start before it left them, or as a power cut may leave them. It is of the bus as it goes on there.
abbrev pub FoundBehindStarts : NamedBus → List DiskState → List UnfinishedStart → List DiskState → Type 0
FoundBehindStarts bus left [] found = EachLeft (length bus.nodes) left found
FoundBehindStarts bus left (start ∷ earlier) found =
    FoundBehindStarts bus left earlier start.before × GoesOnAs bus earlier start.bus start.before
    × IsUnfinished start × EachLeft (length bus.nodes) start.after found

-- those that are found after a life
abbrev pub LeftBehindStarts : Life → List UnfinishedStart → List DiskState → Type 0
LeftBehindStarts life = FoundBehindStarts life.bus life.after

-- a life goes on over the disks that the one before it left, or starts after it that weren't finished
pub record Follows (life next : Life) : Type 0 where
  pub starts : List UnfinishedStart
  pub disks : LeftBehindStarts life starts next.before
  pub as_bus : GoesOnAs life.bus starts next.bus next.before
  pub goes_on : StartsOver next.bus next.before next.first

-- ---- lives

-- the first of them begins at the first world of the bus, over formatted disks, or goes on where its disks stand
abbrev pub IsFirstLife : Life → Type 0
IsFirstLife life =
    (life.first ≡ First (configs_of life.bus)) ⊎ StartsOver life.bus life.before life.first

-- further lives, each of which follows the one before it
abbrev pub LivesBehind : Life → List Life → Type 0
LivesBehind life [] = Unit {0}
LivesBehind life (next ∷ lives) = Follows life next × IsLife next × LivesBehind next lives

-- the lives of a bus, in order, the first of them of this bus
abbrev pub LivesOf : NamedBus → List Life → Type 0
LivesOf bus [] = Unit {0}
LivesOf bus (life ∷ lives) = (life.bus ≡ bus) × IsFirstLife life × IsLife life × LivesBehind life lives

-- ---- what passes in them

-- all moments of these lives, in order
abbrev pub moments_in : List Life → Moments
moments_in [] = []
moments_in (life ∷ lives) = life.moments ++ moments_in lives

-- what comes next in lives: one of them begins in a world, or a moment passes in it
pub data Stage : Type 0 where
  life_begins : (first : World) → Stage
  moment_passes : (moment : Instant) → Stage

-- all stages of these lives, in order
abbrev pub stages_in : List Life → List Stage
stages_in [] = []
stages_in (life ∷ lives) = life_begins life.first ∷ (map moment_passes life.moments ++ stages_in lives)

-- the world at a stage, and after several
abbrev pub world_at : Stage → World
world_at (life_begins first) = first
world_at (moment_passes m) = m.after

abbrev pub world_behind : World → List Stage → World
world_behind world [] = world
world_behind world (stage ∷ stages) = world_behind (world_at stage) stages

-- at some moment of these stages this holds of the world before it and of the moment
abbrev pub AtSomeStage : (World → Instant → Type 0) → World → List Stage → Type 0
AtSomeStage P before [] = ⊥
AtSomeStage P before (life_begins first ∷ stages) = AtSomeStage P first stages
AtSomeStage P before (moment_passes m ∷ stages) = P before m ⊎ AtSomeStage P m.after stages

-- ---- what holds of them

-- of two stages, the slots of the nodes at the later go on: no counter has fallen, and none that was filled is empty
abbrev pub SlotsOutlast : ℕ → List Stage → Type 0
SlotsOutlast nodes =
    AllPairs (λ stage later.
    (i t : ℕ) → i < nodes → GoesOn (slot_in (world_at stage) i t) (slot_in (world_at later) i t))

-- the moment's event is an update of slot t of node i to this content, which was acknowledged, or failed
abbrev pub RenewsSlot : ℕ → ℕ → Slot → World → Instant → Type 0
RenewsSlot i t slot before m = Acknowledges i t slot before m ⊎ FailsUpdate i t slot before m

-- what slot t of node i holds after stages that follow an acknowledged update to `slot`: that, or the whole update of a
-- later moment, which was acknowledged or failed
abbrev pub HoldsLatest : ℕ → ℕ → Slot → World → List Stage → Type 0
HoldsLatest i t slot world since =
    let now = slot_in (world_behind world since) i t in
    (now ≡ slot) ⊎ AtSomeStage (RenewsSlot i t now) world since

-- an acknowledged update is there ever after, in its life and in those after it, or a later one is in its place
abbrev pub UpdatesOutlast : List Stage → Type 0
UpdatesOutlast stages =
    (done : List Stage) (stage : Stage) (m : Instant) (since later : List Stage) (i t : ℕ) (slot : Slot)
    → stages ≡ done ++ stage ∷ moment_passes m ∷ since ++ later
    → Acknowledges i t slot (world_at stage) m
    → HoldsLatest i t slot m.after since

-- each node of a life begins as it powers up from the last world of the life before: it keeps what it kept then, or
-- that with the change that was pending
abbrev pub EachPowersUp : ℕ → List Life → Type 0
EachPowersUp nodes lives =
    (done : List Life) (life next : Life) (later : List Life) → lives ≡ done ++ life ∷ next ∷ later
    → (i : ℕ) → i < nodes → PowersUp (node_at life.last i) (node_at next.first i)

-- Of two lines, from the first of the first life to the last of the last, the later has the greater freshness: if both
-- are accepted by one node under one Data ID, and if both are sent under one.
pub record LivesGoOn (bus : NamedBus) (lives : List Life) : Type 0 where
  pub freshness_rises : Rising (moments_in lives) × Single (moments_in lives)
  pub no_slot_goes_back : SlotsOutlast (length bus.nodes) (stages_in lives)
  pub no_update_is_lost : UpdatesOutlast (stages_in lives)
  pub each_powers_up : EachPowersUp (length bus.nodes) lives

abbrev pub AllLivesGoOn : Type 0
AllLivesGoOn = (bus : NamedBus) (lives : List Life) → LivesOf bus lives → LivesGoOn bus lives

-- ---- that the next one is started

-- Over whatever a power cut may leave of a disk of the life its node is started, in the same version or moved to
-- version 2. So no next start is refused for these bytes. Of a life in version 1 this asks that no header of version 2
-- stands there.
abbrev pub LeavesNodes : Life → Type 0
LeavesNodes life =
    (i : ℕ) (l : NodeLine) (d : DiskState) (t : Told) (x : List ℕ) (next : Version)
    → i < length life.bus.nodes → (get_or life.after i d).told ≡ Some t → Image t x
    → NoNewer life.bus.kind life.bus.version (cells_in (get_or life.bus.nodes i l).config) x
    → (next ≡ life.bus.version) ⊎ (next ≡ Two)
    → CanStart Attach life.bus.kind next (get_or life.bus.nodes i l).config x

-- So is what is found after starts that weren't finished: the disk of each node tells bytes over which the next bus
-- starts it. In version 1 this asks that the header of version 2 doesn't stand there.
abbrev pub StartsLeaveNodes : Life → Type 0
StartsLeaveNodes life =
    (starts : List UnfinishedStart) (next : NamedBus) (found : List DiskState)
    → LeftBehindStarts life starts found → GoesOnAs life.bus starts next found → NoneNewer next found
    → (i : ℕ) (l : NodeLine) (d : DiskState) → i < length next.nodes
    → (t : Told) × ((get_or found i d).told ≡ Some t)
    × CanStart Attach next.kind next.version (get_or next.nodes i l).config t.bytes

-- the fault is none of a disk's bytes: a disk failed, or is missing or too small, or there was no memory
abbrev pub BlamesNoBytes : StartFault → Type 0
BlamesNoBytes (start_fault.Store number reread.DiskFailed) = Unit {0}
BlamesNoBytes (start_fault.Store number fault) = ⊥
BlamesNoBytes (start_fault.BadSlot number slot) = ⊥
BlamesNoBytes (start_fault.BadBound number cell) = ⊥
BlamesNoBytes fault = Unit {0}

-- so a next start over these disks has no other fault
abbrev pub NextBlamesNoBytes : Life → Type 0
NextBlamesNoBytes life =
    (starts : List UnfinishedStart) (next : NamedBus) (before after : List DiskState) (fault : StartFault)
    → LeftBehindStarts life starts before → GoesOnAs life.bus starts next before → NoneNewer next before
    → NotStarted Attach next before after fault → BlamesNoBytes fault

-- a start of its bus over the disks that it left, or over what a power cut left of them, leaves the bytes of each as
-- they were if it is refused, for any cause. So the next life finds them as if that start hadn't been
abbrev pub OutlastsRefusals : Life → Type 0
OutlastsRefusals life =
    (before after : List DiskState) (fault : StartFault)
    → EachLeft (length life.bus.nodes) life.after before → NotStarted Attach life.bus before after fault
    → (i : ℕ) (d : DiskState) → i < length life.bus.nodes → (get_or after i d).told ≡ (get_or before i d).told

-- each life of a bus does this
abbrev pub EachLife : (Life → Type 0) → Type 0
EachLife P =
    (bus : NamedBus) (done : List Life) (life : Life) (later : List Life)
    → LivesOf bus (done ++ life ∷ later) → P life

-- ---- where they come from

-- the life of a run of a bus over these disks
abbrev pub life_over : NamedBus → List DiskState → List DiskState → World → List Event → Moments → World → Life
life_over bus before after first events moments last = record {
  bus = bus;
  before = before;
  first = first;
  events = events;
  moments = moments;
  last = last;
  after = after;
}

-- such a run is a life: all that a life needs, `WorldRun` has
abbrev pub WorldRunsAreLives : Type 0
WorldRunsAreLives = (bus : NamedBus) (before after : List DiskState) (first : World) (events : List Event)
    (moments : Moments) (last : World) → WorldRun first bus before after events moments last
    → IsLife (life_over bus before after first events moments last)

-- the life of turns of a bus
abbrev pub life_of : NamedBus → List DiskState → List DiskState → List Event → BusState
    → List (Moment Event Line BusState) → BusState → Life
life_of bus before after events start moments now =
    life_over bus before after (world_of start) events (seen moments) (world_of now)

-- Turns of a bus that was started over attached disks are a life that follows, with all that `WorldRun` says. The
-- disks are what a life and starts after it left, or what power cuts left of that. No byte of them may be loose; after
-- a power cut none is.
abbrev pub AttachedRunsFollow : Type 0
AttachedRunsFollow = (bus : NamedBus) (life : Life) (starts : List UnfinishedStart) (most : ℕ)
    (before after : List DiskState) (events : List Event)
    (start : BusState) (moments : List (Moment Event Line BusState)) (now : BusState)
    → IsNamedBus bus → IsLife life → LeftBehindStarts life starts before → GoesOnAs life.bus starts bus before
    → TellFirm bus before
    → Started Attach bus most before start → TakesTurns bus before after events start moments now
    → Follows life (life_of bus before after events start moments now)
    × IsLife (life_of bus before after events start moments now)
    × WorldRun (world_of start) bus before after events (seen moments) (world_of now)
