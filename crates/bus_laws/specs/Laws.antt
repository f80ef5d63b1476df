-- The laws of all runs from a first world, as statements
use Rattle.std.specs.Prelude.{◌≡◌, ◌≢◌, ℕ, ◌<◌, true, None, List, [], ◌∷◌, All, length, map, replicate}
use Rattle.basics.specs.Blocks.{IsBlock}
use Rattle.key_slots.specs.declared.memory.Slot.TheVariants.{Empty}
use Rattle.memory_update.specs.Messages.{IsUpdate, IsRequest}
use Rattle.secure_boot.specs.declared.state.BootState.TheVariants.{Undecided}
use Rattle.freshness_routes.specs.Config.{Config}
use Rattle.freshness_routes.specs.declared.routes.Direction.TheVariants.{Sends}
use Rattle.machine_runs.specs.Run.{Run, commands_in}
use Rattle.bus_machine.specs.declared.events.Event.{Event}
use Rattle.bus_machine.specs.declared.events.Event.TheVariants.{Deliver, Load, Key, Cut}
use Rattle.bus_machine.specs.declared.lines.Line.{Line}
use Rattle.bus_machine.specs.declared.lines.Line.TheVariants.{Up, Refused}
use Rattle.bus_machine.specs.declared.lines.Refusal.TheVariants.{MemoryFailure}
use Rattle.bus_machine.specs.Node.{Node, HasRoute}
use Rattle.bus_machine.specs.Sound.{Sound}
use Rattle.bus_machine.specs.Steps.{Act, NodeStep}
use Rattle.bus_machine.specs.Bus.{World, SentLine, First, node_of, Instant, Moments, IsBus, Step, node_at, SoundBus}
use Rattle.bus_machine.specs.Freshness.{Rising, Single, AllCovered}
use Rattle.bus_machine.specs.Authentic.{Authentic}
use Rattle.bus_machine.specs.KeysKept.{KeysKept, SettledSlotsStay}
use Rattle.bus_machine.specs.Skips.{SkipsLittle}
use Rattle.bus_machine.specs.Honest.{HonestDelivery, SameKeyDelivery, IsHeard}

-- a first world: no event and no sent line yet, and each node sound and up, with its counters at its bounds
pub record IsFirst (world : World) : Type 0 where
  pub no_event : world.events ≡ 0
  pub nothing_sent : world.sent ≡ []
  pub sound : SoundBus world
  pub up : (i : ℕ) → i < length world.nodes → (node_at world i).up ≡ true
  pub at_bounds : (i : ℕ) → i < length world.nodes → (node_at world i).counters ≡ (node_at world i).kept.bounds

-- no Data ID is sent by two nodes
abbrev pub OneSender : World → Type 0
OneSender world =
    (i j id : ℕ) → i < length world.nodes → j < length world.nodes → HasRoute (node_at world i) id Sends
    → HasRoute (node_at world j) id Sends → i ≡ j

-- the first world of a bus is one, with one sender
abbrev pub BusesBeginFirst : Type 0
BusesBeginFirst = (bus : List Config) → IsBus bus → IsFirst (First bus) × OneSender (First bus)

-- its nodes are those of the bus, in their order: each slot is empty, each bound is its route's start, and no boot was
-- made
pub record HasNodesOf (bus : List Config) (world : World) : Type 0 where
  pub configs : map (λ node. node.config) world.nodes ≡ bus
  pub slots : All (λ node. node.kept.slots ≡ replicate 14 Empty) world.nodes
  pub bounds : All (λ node. node.kept.bounds ≡ map (λ route. route.start) node.config.routes) world.nodes
  pub unbooted : All (λ node. node.boot ≡ Undecided) world.nodes

abbrev pub BusesBeginWithTheirNodes : Type 0
BusesBeginWithTheirNodes = (bus : List Config) → HasNodesOf bus (First bus)

-- each run from a first world has this
abbrev pub EachRun : (World → Moments → World → Type 0) → Type 0
EachRun Claim =
    (start : World) (ms : Moments) (last : World) → IsFirst start → Run Step start ms last → Claim start ms last

-- ---- the invariants

abbrev pub StepsKeepSound : Type 0
StepsKeepSound =
    (node : Node) (act : Act) (line : Line) (after : Node) → Sound node → NodeStep node act line after → Sound after

abbrev pub RunsAreSound : Type 0
RunsAreSound = EachRun (λ start ms last. SoundBus last)

abbrev pub RunsAreCovered : Type 0
RunsAreCovered = EachRun (λ start ms last. AllCovered ms last)

-- ---- the four theorems

abbrev pub RunsRise : Type 0
RunsRise = EachRun (λ start ms last. Rising ms)

abbrev pub RunsAreAuthentic : Type 0
RunsAreAuthentic = EachRun (λ start ms last. Authentic start ms)

abbrev pub RunsAreSingle : Type 0
RunsAreSingle = EachRun (λ start ms last. OneSender start → Single ms)

abbrev pub RunsKeepKeys : Type 0
RunsKeepKeys = EachRun (λ start ms last. KeysKept start ms)

-- an update that failed, and that a power-up dropped, is gone for good
abbrev pub RunsSettleKeys : Type 0
RunsSettleKeys = EachRun (λ start ms last. SettledSlotsStay start ms)

-- ---- cuts and honest PDUs

abbrev pub CutsSkipLittle : Type 0
CutsSkipLittle =
    EachRun (λ start ms last. (m : Instant) → Step last m.command m.line m.after → SkipsLittle start ms last m)

abbrev pub HonestIsHeard : Type 0
HonestIsHeard = EachRun (λ start ms last. (i number : ℕ) (line : Line) (after : World) (s : SentLine)
    → HonestDelivery last (node_at last i) number s → Step last (Deliver i number) line after → IsHeard s line)

-- a delivery to a node whose slot holds the key that the sender's slot held at the send is such a delivery
abbrev pub SameKeyIsHonest : Type 0
SameKeyIsHonest = EachRun (λ start ms last. (i number : ℕ) (s : SentLine)
    → SameKeyDelivery start ms last (node_at last i) number s → HonestDelivery last (node_at last i) number s)

-- ---- no run is stuck

-- the disk didn't fail
abbrev pub NoFailure : Line → Type 0
NoFailure (Refused MemoryFailure) = ⊥
NoFailure _ = Unit {0}

-- if the event is a key update, its keys, numbers and messages are such as the code's types have
abbrev pub IsTypedUpdate : Event → Type 0
IsTypedUpdate (Load node request) = IsRequest request
IsTypedUpdate (Key node update authkey) = IsUpdate update × IsBlock authkey
IsTypedUpdate _ = Unit {0}

-- each event of a node of the bus has a line and a world after it, without a failure of the disk
abbrev pub RunsGoOn : Type 0
RunsGoOn = EachRun (λ start ms last. (event : Event) → node_of event < length last.nodes → IsTypedUpdate event
    → (line : Line) × (after : World) × NoFailure line × Step last event line after)

-- so each list of such events has a run from a first world
abbrev pub EventsHaveRuns : Type 0
EventsHaveRuns = (start : World) (events : List Event) → IsFirst start
    → All (λ event. (node_of event < length start.nodes) × IsTypedUpdate event) events
    → (ms : Moments) × (last : World) × Run Step start ms last × (commands_in ms ≡ events)
    × All (λ m. NoFailure m.line) ms

-- ---- what is determined

-- two lists of moments with the same events and lines, and with the same choice at each cut that found a change
-- pending: what the node then keeps
abbrev pub Alike : World → Moments → Moments → Type 0
Alike before [] [] = Unit {0}
Alike before (m ∷ ms) (n ∷ ns) =
    let i = node_of m.command in
    (m.command ≡ n.command)
    × (m.line ≡ n.line)
    × (m.line ≡ Up → (node_at before i).pending ≢ None → (node_at m.after i).kept ≡ (node_at n.after i).kept)
    × Alike m.after ms ns
Alike before _ _ = ⊥

-- the lines and these choices determine every world of a run
abbrev pub LinesDetermineWorlds : Type 0
LinesDetermineWorlds =
    EachRun (λ start ms last. (ns : Moments) (other : World) → Run Step start ns other → Alike start ms ns → ms ≡ ns)

-- the event is no cut
abbrev pub NoCut : Event → Type 0
NoCut (Cut node torn) = ⊥
NoCut _ = Unit {0}

abbrev pub IsCalm : Moments → Type 0
IsCalm = All (λ m. NoCut m.command × NoFailure m.line)

-- without cuts and failures the events determine every line and every world
abbrev pub EventsDetermineLines : Type 0
EventsDetermineLines = EachRun (λ start ms last. (ns : Moments) (other : World) → Run Step start ns other
    → commands_in ms ≡ commands_in ns → IsCalm ms → IsCalm ns → ms ≡ ns)
