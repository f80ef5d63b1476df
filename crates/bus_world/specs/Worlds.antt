-- Worlds over disks: the nodes of a bus with their stores, and what was sent on it
use Rattle.std.specs.Prelude.{◌≡◌, ℕ, ◌+◌, ◌<◌, ◌≤◌, Some, List, length, map, slice_get, All}
use Rattle.machine_runs.specs.Members.{MemberSteps}
use Rattle.machine_runs.specs.Run.{Moment, Run, seen_as}
use Rattle.bus_machine.specs.declared.events.Event.{Event}
use Rattle.bus_machine.specs.declared.lines.Line.{Line}
use Rattle.bus_machine.specs.LineKinds.{IsLine}
use Rattle.bus_machine.specs.Bus.{World, SentLine, node_of, NamesSource, sent_after, Step, SoundBus}
use Rattle.bus_machine.specs.Past.{mark_of}
use Rattle.bus_machine.specs.Node.{place_of}
use Rattle.bus_machine.specs.Honest.{IsInTime, IsHeard}
use Rattle.freshness_routes.specs.declared.routes.Direction.TheVariants.{Receives}
use Rattle.secoc_node.specs.State.{NodeState, TellsFitting}
use Rattle.bus_world.specs.Turns.{CanBeDone, IsCertain, duty_of, NodeTurn, TellsFaults, Brings, HearsBrought}

-- the nodes in their order, how many events there were and may be, and the lines that were sent
pub record BusState : Type 0 where
  pub nodes : List NodeState
  pub events : ℕ
  pub most : ℕ
  pub sent : List SentLine

-- the world of the machine
abbrev pub world_of : BusState → World
world_of s = record { nodes = map (λ n. n.node) s.nodes; events = s.events; sent = s.sent }

-- an event of a bus of so many nodes, as scripts have them
pub record IsEventOf (nodes : ℕ) (event : Event) : Type 0 where
  pub of_bus : node_of event < nodes
  pub fields : CanBeDone event

-- a world may be given these events, in this order: they are of its nodes, and there is room for what they send
pub record IsReady (s : BusState) (events : List Event) : Type 0 where
  pub of_bus : All (IsEventOf (length s.nodes)) events
  pub room : s.events + length events ≤ s.most

-- the event's node takes its turn over its disk, the other nodes and their disks are as before, and what was sent is
-- put down; the line is one that its type has
pub record BusTurn (before : BusState) (event : Event) (line : Line) (after : BusState) : Type 0 where
  pub one : MemberSteps NodeTurn before.nodes (node_of event) (duty_of (world_of before) event) line after.nodes
  pub source : NamesSource (world_of before) line
  pub events : after.events ≡ before.events + 1
  pub most : after.most ≡ before.most
  pub sent : after.sent ≡ sent_after (world_of before) event line
  pub is_line : IsLine line

-- what the event brings its node in time is accepted with its payload and freshness; or the disk failed: the line tells
-- so, and the count of faults of this node's disk rose
abbrev pub HearsInTime : BusState → Event → Line → BusState → Type 0
HearsInTime before event line after = (s : SentLine) (old new : NodeState)
    → Brings (world_of before) event s
    → slice_get before.nodes (node_of event) ≡ Some old → slice_get after.nodes (node_of event) ≡ Some new
    → IsInTime old.node s (place_of old.node s.id Receives)
    → IsHeard s line × TellsFaults line old.store.disk.faults new.store.disk.faults

-- what the turn changes before the event is put down
pub record Turned (before : BusState) (event : Event) (line : Line) (after : BusState) : Type 0 where
  pub one : MemberSteps NodeTurn before.nodes (node_of event) (duty_of (world_of before) event) line after.nodes
  pub source : NamesSource (world_of before) line
  pub events : after.events ≡ before.events
  pub most : after.most ≡ before.most
  pub sent : after.sent ≡ before.sent

-- the node at the event's place hears what the event brings it in time
abbrev pub NodeHears : BusState → Event → Line → Type 0
NodeHears before event line =
    (old : NodeState) → slice_get before.nodes (node_of event) ≡ Some old
    → HearsBrought (world_of before) event old.node line

-- ---- worlds as those of the machine

-- each disk tells its bytes, and they fit its node
abbrev pub EachFits : BusState → Type 0
EachFits s = (i : ℕ) (n : NodeState) → slice_get s.nodes i ≡ Some n → TellsFitting n

-- a turn is the machine's step: always if the event is no cut, and if it is one, over a disk that tells its bytes and
-- fits its node
abbrev pub TurnsAreSteps : Type 0
TurnsAreSteps = (before : BusState) (event : Event) (line : Line) (after : BusState) → BusTurn before event line after
    → ((n : NodeState) → slice_get before.nodes (node_of event) ≡ Some n → IsCertain (mark_of event) n)
    → Step (world_of before) event line (world_of after)

-- turns over disks that tell their bytes and fit are a run of the machine, and leave the disks so
abbrev pub TurnsAreRuns : Type 0
TurnsAreRuns = (start now : BusState) (moments : List (Moment Event Line BusState)) → EachFits start
    → Run BusTurn start moments now
    → Run Step (world_of start) (seen_as (λ event. event) world_of moments) (world_of now) × EachFits now

-- a turn leaves each node sound, whatever its disk tells, if each was: so do all turns of a world
abbrev pub TurnsKeepSound : Type 0
TurnsKeepSound = (start now : BusState) (moments : List (Moment Event Line BusState)) → SoundBus (world_of start)
    → Run BusTurn start moments now → SoundBus (world_of now)
