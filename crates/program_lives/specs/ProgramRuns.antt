-- Runs of `node`, `endpoint` and `keytool load` over one store, one after another: each is a life of the bus
use Rattle.std.specs.Prelude.{◌≡◌, ℕ, Option, Some, List, [], ◌∷◌, ◌++◌, map, get_or}
use Rattle.program_edge.specs.Endings.{Ending}
use Rattle.machine_runs.specs.Run.{commands_in, lines_in}
use Rattle.memory_update.specs.declared.messages.Request.{Request}
use Rattle.bus_machine.specs.declared.events.Event.{Event}
use Rattle.bus_machine.specs.declared.events.Event.TheVariants as event
use Rattle.bus_machine.specs.declared.lines.Line.{Line}
use Rattle.bus_machine.specs.declared.lines.Line.TheVariants as line
use Rattle.bus_machine.specs.declared.lines.Refusal.TheVariants.{Key, MemoryFailure}
use Rattle.bus_machine.specs.Bus.{World, Moments, node_at}
use Rattle.bus_world.specs.declared.start.Start.TheVariants.{Attach}
use Rattle.bus_world.specs.TakingUp.{cells_in}
use Rattle.bus_world.specs.Starts.{StartsOver}
use Rattle.bus_world.specs.StartRows.{CanStart}
use Rattle.bus_lives.specs.Lives.{DiskState, firm, NodeLine, NamedBus, IsNamedBus}
use Rattle.bus_lives.specs.Lives.{Life, IsLife, UnfinishedStart, GoesOnAs, FoundBehindStarts, LivesOf}
use Rattle.bus_lives.specs.Lives.{LivesGoOn}
use Rattle.bus_commands.specs.Commands.{HeadlineRun}
use Rattle.endpoint_commands.specs.declared.rules.FrameRule.{FrameRule}
use Rattle.endpoint_commands.specs.Running.{LineMoment}
use Rattle.endpoint_commands.specs.Headline.{OneEndpointRun}
use Rattle.any_cells.specs.declared.finding.CountingStore.{CountingStore}
use Rattle.key_commands.specs.declared.lines.LoadLine.{LoadLine}
use Rattle.key_commands.specs.declared.lines.LoadLine.TheVariants.{Loaded, Refused, Failed}
use Rattle.any_cells.specs.Counting.{StoreThatCounts, counting_store}
use Rattle.key_commands.specs.Loader.{LoaderState}
use Rattle.key_commands.specs.Loading.{EndsLoading, all_answered, disk_failed, cut_short, cut_and_failed}
use Rattle.key_commands.specs.Loads.{OnFirstDisk, LoadsInto}

-- ---- a load of keys, seen at the machine

-- a load is of the one node of this bus: it is given the identifier of the node's engine, and finds the node's store
pub record LoadsNode (bus : NamedBus) (uid : List ℕ) (before : List DiskState) : Type 0 where
  pub is_bus : IsNamedBus bus
  pub node : NodeLine
  pub one : bus.nodes ≡ node ∷ []
  pub engine : node.config.uid ≡ uid
  -- The disk tells bytes, none of them loose: in a file none is, since it is synced as it is opened.
  pub bytes : List ℕ
  pub tells : (d : DiskState) → (get_or before 0 d).told ≡ Some (firm bytes)
  -- The store that counts in them is in the layout of the bus, and has as many cells as the node.
  pub counts : (found : CountingStore) → StoreThatCounts bytes (Some found)
      → found ≡ counting_store bus.kind bus.version (cells_in node.config)

-- the line of the machine that tells what came of a request
abbrev pub machine_line : LoadLine → Line
machine_line (Loaded reply) = line.Loaded reply
machine_line (Refused refusal) = line.Refused (Key refusal)
machine_line Failed = line.Refused MemoryFailure

-- the moments are loads of these requests into the first node, and tell what these lines tell
pub record AreLoads (requests : List Request) (lines : List LoadLine) (moments : Moments) : Type 0 where
  pub of_requests : commands_in moments ≡ map (λ request. event.Load 0 request) requests
  pub of_lines : lines_in moments ≡ map machine_line lines

-- they are the loads of the requests that were done until loading ended so
abbrev pub AreLoadsOf : (opened : LoaderState) (requests : List Request) (left : LoaderState) (e : Ending)
    → EndsLoading opened requests left e → Moments → Type 0
AreLoadsOf opened requests left e (all_answered lines status loaded prints) moments = AreLoads requests lines moments
AreLoadsOf opened requests left e (disk_failed first request rest lines status all failed prints) moments =
    AreLoads (first ++ request ∷ []) (lines ++ Failed ∷ []) moments
AreLoadsOf opened requests left e (cut_short first request rest lines told all loaded writes) moments =
    AreLoads (first ++ request ∷ []) (lines ++ told ∷ []) moments
AreLoadsOf opened requests left e (cut_and_failed first request rest lines all failed writes) moments =
    AreLoads (first ++ request ∷ []) (lines ++ Failed ∷ []) moments

-- no boot was made in this life, and the bounds of its one node are as before
pub record OnlyLoads (life : Life) : Type 0 where
  pub no_boot : (node_at life.last 0).boot ≡ (node_at life.first 0).boot
  pub bounds : (node_at life.last 0).kept.bounds ≡ (node_at life.first 0).kept.bounds

-- ---- a run of one of the three programs

-- What a run did over the disks of a bus, of which `before` and `after` is known: in the terms of what the top call of
-- its program promises.
pub data DidRun (bus : NamedBus) (before after : List DiskState) : Type 0 where
  -- `node` (`RunsMachine`): its events are one run, from a world in which the bus goes on where its disks stand
  by_node : (first : World) (events : List Event) (moments : Moments) (last : World) → StartsOver bus before first
      → HeadlineRun first bus (record { before = before; after = after }) events moments last
      → DidRun bus before after
  -- `endpoint` (`DidEndpoint`): what the lines of its log ask for is one run of its node
  by_endpoint : (rules : List FrameRule) (image : Option (List ℕ)) (told : List Line) (lines : List LineMoment)
      → OneEndpointRun bus rules image before after told lines → DidRun bus before after
  -- `keytool load` (`EndsLoad`): requests were loaded into the store of the bus's one node
  by_load : (uid : List ℕ) (requests : List Request) (e : Ending) → LoadsNode bus uid before
      → OnFirstDisk before after (LoadsInto uid requests e) → DidRun bus before after

-- The bus as it then was, the disks as they were found and left, and what was done. A run that is killed within a disk
-- call counts as one whose disk failed at that call, as a start does, and one that is killed between two as one that
-- printed a prefix.
pub record ProgramRun : Type 0 where
  pub bus : NamedBus
  pub before : List DiskState
  pub after : List DiskState
  pub did : DidRun bus before after

-- the life has what the run did: its moments are those of the run, or the loads of its requests and nothing else
abbrev pub HasDone : (bus : NamedBus) (before after : List DiskState) → DidRun bus before after → Life → Type 0
HasDone bus before after (by_node first events moments last goes_on run) life =
    (life.first ≡ first) × (life.events ≡ events) × (life.moments ≡ moments) × (life.last ≡ last)
HasDone bus before after (by_endpoint rules image told lines run) life =
    (life.first ≡ run.first) × (life.moments ≡ run.moments) × (life.last ≡ run.last)
HasDone bus before after (by_load uid requests e is on) life =
    AreLoadsOf on.holds.opened requests on.holds.left e on.holds.ends life.moments × OnlyLoads life

-- it is the life of this run
pub record IsLifeOf (run : ProgramRun) (life : Life) : Type 0 where
  pub bus_is : life.bus ≡ run.bus
  pub before_is : life.before ≡ run.before
  pub after_is : life.after ≡ run.after
  pub has_done : HasDone run.bus run.before run.after run.did life

-- If a load comes first of all, its bytes are such as the node is started over: after the slots they have its bounds.
-- `node` and `endpoint` look for that themselves, and after another run it needs no premise.
abbrev pub CanComeFirst : (bus : NamedBus) (before after : List DiskState) → DidRun bus before after → Type 0
CanComeFirst bus before after (by_load uid requests e is on) =
    CanStart Attach bus.kind bus.version is.node.config is.bytes
CanComeFirst bus before after did = Unit {0}

-- each run is a life, from a world in which the bus goes on where its disks stand
abbrev pub EachRunIsALife : Type 0
EachRunIsALife = (run : ProgramRun) → CanComeFirst run.bus run.before run.after run.did
    → (life : Life) × IsLifeOf run life × StartsOver life.bus life.before life.first × IsLife life

-- ---- one after another

-- The next run found the disks as the one before it left them, or as a power cut may leave them, or as starts between
-- them did that weren't finished. It is of the bus as it goes on there.
pub record FollowsRun (run next : ProgramRun) : Type 0 where
  pub starts : List UnfinishedStart
  pub disks : FoundBehindStarts run.bus run.after starts next.before
  pub as_bus : GoesOnAs run.bus starts next.bus next.before

abbrev pub RunsBehind : ProgramRun → List ProgramRun → Type 0
RunsBehind run [] = Unit {0}
RunsBehind run (next ∷ runs) = FollowsRun run next × RunsBehind next runs

-- runs over the disks of a bus, of any of the three programs in any order, the first of them of this bus
abbrev pub RunsOfBus : NamedBus → List ProgramRun → Type 0
RunsOfBus bus [] = Unit {0}
RunsOfBus bus (run ∷ runs) =
    (run.bus ≡ bus) × CanComeFirst run.bus run.before run.after run.did × RunsBehind run runs

-- these are their lives
abbrev pub AreLivesOf : List ProgramRun → List Life → Type 0
AreLivesOf [] [] = Unit {0}
AreLivesOf (run ∷ runs) (life ∷ lives) = IsLifeOf run life × AreLivesOf runs lives
AreLivesOf runs lives = ⊥

-- From the first run of any of the three to the last: freshness rises, no slot goes back, and no acknowledged update is
-- lost.
pub record ProgramRunsGoOn (bus : NamedBus) (runs : List ProgramRun) : Type 0 where
  pub lives : List Life
  pub are_lives : AreLivesOf runs lives
  pub of_bus : LivesOf bus lives
  pub go_on : LivesGoOn bus lives

abbrev pub AllProgramRunsGoOn : Type 0
AllProgramRunsGoOn = (bus : NamedBus) (runs : List ProgramRun) → RunsOfBus bus runs → ProgramRunsGoOn bus runs
