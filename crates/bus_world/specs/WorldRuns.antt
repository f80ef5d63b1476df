-- What holds of a run of a bus over disks that tell their bytes, from any first world: all of it is said of one run of
-- the machine
use Rattle.std.specs.Prelude.{◌≡◌, ℕ, ◌<◌, false, List, ◌∷◌, ◌++◌, length, take, get_or, All}
use Rattle.cut_disk.specs.State.{DiskState}
use Rattle.store_keeping.specs.DiskTurns.{FailuresTold}
use Rattle.machine_runs.specs.Run.{Run, commands_in, lines_in}
use Rattle.bus_machine.specs.declared.events.Event.{Event}
use Rattle.bus_machine.specs.declared.events.Event.TheVariants.{Deliver, Cut, Stop, Fail}
use Rattle.bus_machine.specs.declared.lines.Line.{Line}
use Rattle.bus_machine.specs.Bus.{World, SentLine, Instant, Moments, Step, state_after, node_of, node_at}
use Rattle.bus_machine.specs.Freshness.{Rising, Single, AllCovered}
use Rattle.bus_machine.specs.Authentic.{Authentic}
use Rattle.bus_machine.specs.KeysKept.{KeysKept}
use Rattle.bus_machine.specs.Skips.{SkipsLittle}
use Rattle.bus_machine.specs.Honest.{HonestDelivery, IsHeard}
use Rattle.bus_laws.specs.Laws.{IsFirst, OneSender}
use Rattle.bus_config.specs.Buses.{NamedBus}
use Rattle.bus_machine.specs.LineKinds.{IsLine}
use Rattle.bus_world.specs.NodeDisks.{AreQuiet, mark_at, tells_failure, fails_at, DisksFollow}

-- a first world with as many nodes as the bus, in which each Data ID has one sender
pub record IsFirstOf (bus : NamedBus) (first : World) : Type 0 where
  pub is_first : IsFirst first
  pub one_sender : OneSender first
  pub count : length first.nodes ≡ length bus.nodes

-- each power-up of the run skips little
abbrev pub EachSkipsLittle : World → Moments → Type 0
EachSkipsLittle start ms =
    (front rest : Moments) (m : Instant) → ms ≡ front ++ m ∷ rest → SkipsLittle start front (state_after start front) m

-- ---- honest PDUs, and what is determined

-- each PDU that is delivered in time is accepted as it was sent, or the disk fails
abbrev pub EachIsHeard : World → Moments → Type 0
EachIsHeard start ms =
    (front rest : Moments) (m : Instant) (number : ℕ) (s : SentLine) → ms ≡ front ++ m ∷ rest
    → m.command ≡ Deliver (node_of m.command) number
    → HonestDelivery (state_after start front) (node_at (state_after start front) (node_of m.command)) number s
    → IsHeard s m.line

-- the event neither cuts the power nor arms a fault
abbrev pub KeepsPower : Event → Type 0
KeepsPower (Cut node torn) = ⊥
KeepsPower (Stop node calls) = ⊥
KeepsPower (Fail node calls) = ⊥
KeepsPower _ = Unit {0}

-- a run of these events from this first world, in which no disk fails
pub record UnfailedRun (first : World) (events : List Event) (moments : Moments) (last : World) : Type 0 where
  pub run : Run Step first moments last
  pub of_events : commands_in moments ≡ events
  pub unfailed : All (λ m. tells_failure m.line ≡ false) moments

-- these events have such a run, with these lines, and each such run of them has these lines: the first world and the
-- events alone determine them
pub record OneListOfLines (first : World) (events : List Event) (lines : List Line) : Type 0 where
  pub moments : Moments
  pub last : World
  pub unfailed : UnfailedRun first events moments last
  pub lines_are : lines_in moments ≡ lines
  pub only : (ms : Moments) (other : World) → UnfailedRun first events ms other → lines_in ms ≡ lines

-- delivered PDUs are heard. Over quiet disks, if no event that was done cuts, stops or fails, the lines are the one
-- list that these events determine
pub record Honest (first : World) (bus : NamedBus) (before : List DiskState) (events : List Event)
    (moments : Moments) : Type 0 where
  pub heard : EachIsHeard first moments
  pub one_list : AreQuiet bus before → All KeepsPower (take (length moments) events)
      → OneListOfLines first (take (length moments) events) (lines_in moments)

-- ---- all of one run

-- a run of the machine from this first world, of the first of these events, over the disks of the nodes
pub record WorldRun (first : World) (bus : NamedBus) (before after : List DiskState) (events : List Event)
    (moments : Moments) (last : World) : Type 0 where
  pub begins : IsFirstOf bus first
  pub is_a_run : Run Step first moments last
  pub of_events : commands_in moments ≡ take (length moments) events
  -- Each line is one that its type has, so lists of them with one text are the same.
  pub are_lines : All IsLine (lines_in moments)
  -- Of one node and one Data ID, accepted freshness strictly rises, and what is accepted is authentic. Of one Data ID,
  -- no freshness is sent twice. Only a later update undoes an acknowledged key update.
  pub rising : Rising moments
  pub authentic : Authentic first moments
  pub single : Single moments
  pub keys_kept : KeysKept first moments
  -- A power-up skips little freshness, and all that was sent or accepted is at most the kept bound and the counter.
  pub cuts_skip_little : EachSkipsLittle first moments
  pub covered : AllCovered moments last
  -- The disks are those of the last world, what is added to a past is traced, and failures are counted.
  pub disks : DisksFollow first bus before after moments last
  pub failures : (i : ℕ) (d : DiskState) → i < length bus.nodes
      → FailuresTold (mark_at i) (fails_at i) moments (get_or before i d) (get_or after i d)
  -- A PDU that comes in time is accepted; without cuts and failures the events determine the lines.
  pub honest : Honest first bus before events moments
