-- What `run` promises: the headline here, the table of answers in Table.antt.
--
-- The comment of `run` says all of it in words. Here each promise is a member of a record: read the records, which
-- begin after the list of names from below, and look up in it what most of these mean, above their `use`. All is said
-- of one call: `i` is what went in, `d` the disks or what was known of them, `e` how it ended. That freshness rises
-- from one call of `node` to the next over the same disks, too, is a law of the crate bus_lives.
--
-- A source or a disk *tells* its bytes if they are known. Those in memory do, and so does the disk that `main` opens
-- over a file: it holds them in memory, and a read that gives others fails. An input from a file or a stream tells
-- nothing. What was *read whole* of a source is all that came up to its end: of one that tells nothing some bytes, as
-- many as it counts, and what is said of its lines is said of these. *Valid* is what was read whole and has no fault.
--
-- A count of faults never falls, and is full at its last value. A row is a status with its text. A cut is a power cut,
-- which may leave anything of bytes that aren't synced. An event may arm a disk, so that calls of it fail; a quiet disk
-- has nothing armed, and no call of it fails by itself. The past of a disk has each state that a call left, if the disk
-- tells it: one over a file tells none. A slot holds a key, with the counter of its last update. A route is a Data ID
-- that a node sends or receives, with a reserve and, if it receives, a window of freshness that it accepts. After a cut
-- the counter begins again at the kept bound, which is less than a reserve ahead of it.
use Rattle.std.specs.Prelude.{◌≡◌, ◌⊎◌, ℕ, ◌<◌, List, [], length, take, get_or, All}
use Rattle.std.specs.Prelude.{Result, Ok, Err}
-- ---- what went in
-- `BusInputs`: the arguments, and the sources of the bus file (`config`) and of the lines (`script`), before and after.
use Rattle.bus_programs.specs.Inputs.{BusInputs}
-- `Asks words c`: they ask for the command c, and for no other. It is of lines (`frame`, `judge`, `check`), or runs a
-- world over disks: `Replay Format` is `replay`, `Replay Attach` is `node` (*a replay* is either), `Trial` is `trial`
-- with its number of events and its seed. `AsksNothing`: they are malformed. `AsksOverBus`: for a command with a bus
-- file. `AsksWorld`: for one that runs a world.
use Rattle.bus_commands.specs.Words.{Asks}
use Rattle.bus_commands.specs.declared.words.Command.TheVariants as command
use Rattle.bus_commands.specs.declared.words.WorldCommand.TheVariants.{Replay, Trial}
use Rattle.bus_commands.specs.declared.trial_words.TrialWords.{TrialWords}
use Rattle.bus_world.specs.declared.start.Start.{Start}
use Rattle.bus_world.specs.declared.start.Start.TheVariants.{Format, Attach}
-- `OverLines i P`: a command other than `trial` is asked for, what it reads was read whole, and its bus file, if it has
-- one, is valid. P holds of what it is to do (its `Task`) and of the lines. `OverReplayOf`, `OverTrial`, `OverWorld`:
-- such a world is asked for, and all that it reads was read whole and is valid. P holds of the bus and the events.
-- `IsNamedBus`: a bus as bus files have them.
use Rattle.bus_commands.specs.Inputs.{OverReplayOf, OverTrial, OverWorld}
use Rattle.bus_config.specs.Buses.{NamedBus, configs_of}
use Rattle.bus_machine.specs.declared.events.Event.{Event}
-- ---- the disks
-- `CommandDisks`: the disks themselves (`old`, `new`), and what was known of them before and after (`states`).
-- `BusHasDisks`: each node's disk is large enough and tells bytes over which the node can start; and it was quiet, or
-- its count of faults neither rose nor is full. `HoldsNoNode`: a node's disk tells bytes over which it can't go on.
use Rattle.bus_commands.specs.StartRows.{CommandDisks}
-- `CountsDiskFault d place`: the count of faults of the disk at this place rose. `failed_row place`: the row that tells
-- that the disk of the node at this place failed.
use Rattle.bus_world.specs.StartAnswers.{DiskStates}
-- `TellEach`: each node's disk tells its bytes; `TellFirm`: and a cut can take none of them away. `StartsOver`: a world
-- in which each node goes on where its disk stands.
use Rattle.bus_world.specs.NodeDisks.{TellEach}
pub use Rattle.bus_world.specs.WorldTurns.{TellFirm}
use Rattle.bus_world.specs.Starts.{StartsOver}
-- `HasRoom`: each node has a disk that is large enough; `FindsRoom`: they are too few, or which is the first too small.
-- `StoreCause`: why a node wasn't started over its disk. `start_row`: the row of that. `LeavesEach`: what a start may
-- leave that isn't finished: each disk is as it was, or as that of an open node (formatted, or moved to version 2), or
-- its count of faults rose; those without a node are as they were.
use Rattle.bus_world.specs.StartRows.{LeavesEach}
-- ---- how it ended
-- `Ending`: the sink before and after, and the status. `PrintsWhole e text`: exactly this was written, without a fault;
-- `PrintsFront rows e`: a proper prefix of a text of these rows. `EndsIn n e`: the status is n or 6; `MayEndIn n e`: n,
-- 6 or 7. `EndsInRow rows e`: one of these rows was printed, at 6 a prefix of it. `CountsWriteFault`: the sink's count
-- of faults rose; `SinkFailed`: it rose, or is full.
use Rattle.program_edge.specs.Endings.{Ending, PrintsWhole, PrintsFront}
-- `IsOutput`: the text answers each line, and has nothing else. It has for `frame` the digits of its Secured I-PDU, and
-- for `check` its canonical line. For `judge` it has the verdict of a receiver with the widest window, or the bad
-- length. `Summary`: how many events there were, and lines of sent, accepted, a failed verdict, keyed, up and refused.
use Rattle.bus_commands.specs.declared.summary.Summary.{Summary}
use Rattle.bus_commands.specs.Summaries.{summary_of, summary_text}
-- `Written .. result moments`: at `Ok` they are all events, and exactly the texts of their lines were written; at an
-- `Unwritten` those of all but the last, whose event was done, too: of its line a proper prefix was written
-- (`SinkFailed`), or nothing (`Memory`).
use Rattle.run_driver.specs.declared.printing.Unwritten.{Unwritten}
use Rattle.run_driver.specs.declared.printing.Unwritten.TheVariants as unwritten
use Rattle.run_driver.specs.Printed.{Written}
use Rattle.bus_script.specs.LineTexts.{line_text}
-- `ComesInRun`: the rows that come, those of the statuses below, each for the cause that stands there. `memory_row`: 7
-- without a text. It comes as inputs are read, drawn or answered, at a start at which no disk failed, or after all
-- events of a trial. `RowOrReplay`: a row that comes was printed, whole or at 6 by a prefix; or `ReplaysScript`.
use Rattle.bus_commands.specs.Rows.{ComesInRun}
-- ---- the machine: what these say is told at the members of `HeadlineRun`. A `World` has the nodes, with what each
-- keeps and knows, and what was sent so far; a `Step` takes it and an event to a line and the world after it, and looks
-- at no disk; `First` has the nodes as they are new. A node is *sound* if each counter is at most its kept bound, that
-- is less than a reserve ahead, and what it keeps is of its configuration.
use Rattle.machine_runs.specs.Run.{Run, commands_in, lines_in}
use Rattle.bus_machine.specs.Bus.{World, First, Moments, Step}
use Rattle.bus_machine.specs.Freshness.{Rising, Single, AllCovered}
use Rattle.bus_machine.specs.Authentic.{Authentic}
use Rattle.bus_machine.specs.KeysKept.{KeysKept}
use Rattle.bus_machine.specs.LineKinds.{IsLine}
use Rattle.cut_disk.specs.State.{DiskState}
use Rattle.store_keeping.specs.DiskTurns.{FailuresTold}
use Rattle.bus_world.specs.NodeDisks.{mark_at, fails_at, DisksFollow}
use Rattle.bus_world.specs.WorldRuns.{IsFirstOf, EachSkipsLittle, Honest}
use Rattle.bus_commands.specs.Table.{RunsCommand}

-- ==== the headline

-- One run of the machine from `first`, over the disks of the nodes. A moment is an event that was done, with its line
-- and the world after it; `last` is the world after them all. `WorldRun` of bus_world, which `chart` and the lives of a
-- bus share, has these members, and each record gives the other (a law in src/laws.rt): they stand here to be read in
-- one place.
pub record HeadlineRun (first : World) (bus : NamedBus) (d : DiskStates) (events : List Event) (moments : Moments)
    (last : World) : Type 0 where
  -- Each node is sound, up and at the bounds that it keeps; no event of this call was done; a Data ID has one sender.
  pub begins : IsFirstOf bus first
  -- Each moment is a step of the machine; their events are the first of those that were asked for.
  pub is_a_run : Run Step first moments last
  pub of_events : commands_in moments ≡ take (length moments) events
  -- The numbers and bytes of each line are such as its type has.
  pub are_lines : All IsLine (lines_in moments)
  -- Of one node and one Data ID, accepted freshness strictly rises.
  pub rising : Rising moments
  -- What is accepted carries the CMAC of its payload and freshness under the key of the receiver's slot. If its line
  -- names an event, that is a `send` before it in this run, of the same payload with the same freshness.
  pub authentic : Authentic first moments
  -- Of one Data ID, sent freshness strictly rises: none is sent twice.
  pub single : Single moments
  -- An acknowledged update of a key is undone by a later update alone, and no slot's counter falls.
  pub keys_kept : KeysKept first moments
  -- A power-up skips at most one reserve of a sender's freshness; of a receiver's less than one, above its counter or
  -- above the freshness whose acceptance failed.
  pub cuts_skip_little : EachSkipsLittle first moments
  -- The freshness of these moments is at most its route's kept bound, and at most its counter, at last.
  pub covered : AllCovered moments last
  -- Each disk tells bytes that stand for what its node keeps at last, whatever a cut leaves of them; the start and
  -- these moments alone added to its told past; what is known of disks that no node has is as before.
  pub disks : DisksFollow first bus d.before d.after moments last
  -- Lines that tell a failed disk are at most the rise of its count, unless it is full; on a quiet disk none comes
  -- before an event arms it.
  pub failures : (i : ℕ) (disk : DiskState) → i < length bus.nodes
      → FailuresTold (mark_at i) (fails_at i) moments (get_or d.before i disk) (get_or d.after i disk)
  -- A PDU that is delivered in time, under the right key, is accepted as it was sent, or the node's disk failed. In
  -- time: to a node that is up, within the window above its counter. Over quiet disks, without cuts and faults, the
  -- first world and the events alone determine the lines.
  pub honest : Honest first bus d.before events moments

-- what a replay did: one run, with the texts of its lines in the sink, as `Written` says
pub record WrittenRun (first : World) (bus : NamedBus) (d : DiskStates) (events : List Event) (e : Ending)
    (result : Result (Unit {0}) Unwritten) : Type 0 where
  pub moments : Moments
  pub last : World
  pub run : HeadlineRun first bus d events moments last
  pub written : Written line_text e.before e.after events result moments

-- what a trial did: one run of all its events, whose lines have these seven numbers
pub record SummedRun (bus : NamedBus) (d : DiskStates) (events : List Event) (summary : Summary) : Type 0 where
  pub moments : Moments
  pub last : World
  pub run : HeadlineRun (First (configs_of bus)) bus d events moments last
  pub whole : commands_in moments ≡ events
  pub numbers : summary ≡ summary_of (lines_in moments)

-- A valid replay is asked for, and it is one run. That of `replay` begins at the first world of the bus, if each disk
-- tells its bytes. That of `node` begins at a world in which the bus goes on where its disks stand, if a cut can take
-- none of these bytes away.
abbrev pub ReplayIsRun : Start → BusInputs → DiskStates → Ending → Result (Unit {0}) Unwritten → Type 0
ReplayIsRun Format i d e result = OverReplayOf Format i (λ bus events. (TellEach bus d.before
    → WrittenRun (First (configs_of bus)) bus d events e result))
ReplayIsRun Attach i d e result = OverReplayOf Attach i (λ bus events. (TellFirm bus d.before
    → (first : World) × StartsOver bus d.before first × WrittenRun first bus d events e result))

-- a valid trial is asked for, and over disks that tell their bytes it is one run, from the first world of the bus
abbrev pub TrialIsRun : BusInputs → DiskStates → Summary → Type 0
TrialIsRun i d summary = OverTrial i (λ bus events. (TellEach bus d.before → SummedRun bus d events summary))

-- the disks are *unstarted*: every one is as before; or a valid world is asked for, and they are as a start that isn't
-- finished may leave them
abbrev pub LeavesUnstarted : {V : Type 0} → BusInputs → CommandDisks V → Type 0
LeavesUnstarted i d =
    (d.new ≡ d.old) ⊎ OverWorld i (λ start bus events. LeavesEach start bus d.states.before d.states.after)

-- THE HEADLINE, by what is asked for and by status. Runs, and their lines in the sink, are promised here over disks
-- that tell, and of `node` over bytes that a cut can't take away: so over all that `main` makes, or opens over a file.
-- Of what was done over others the table alone speaks, by `ReplaysScript` and `TriesEvents`.
pub record RunsMachine {V : Type 0} (i : BusInputs) (d : CommandDisks V) (e : Ending) : Type 0 where
  -- 0 of `replay`: all events of the script are one run, and the sink has all lines.
  pub replayed : Asks i.words (command.World (Replay Format)) → e.status ≡ 0 → ReplayIsRun Format i d.states e (Ok tt)
  -- 0 of `node`: the same, from a world in which the bus goes on.
  pub attached_run : Asks i.words (command.World (Replay Attach)) → e.status ≡ 0
      → ReplayIsRun Attach i d.states e (Ok tt)
  -- 6 of both: the disks are unstarted, and a prefix of a row was written; or the first events are one run, of whose
  -- last line a prefix was written.
  pub early_ends : (start : Start) → Asks i.words (command.World (Replay start)) → e.status ≡ 6
      → (LeavesUnstarted i d × PrintsFront (ComesInRun i d) e)
      ⊎ ReplayIsRun start i d.states e (Err unwritten.SinkFailed)
  -- 7 of both: the disks are unstarted, and nothing was written; or the first events are one run, of whose last line
  -- nothing was.
  pub early_ends_unwritten : (start : Start) → Asks i.words (command.World (Replay start)) → e.status ≡ 7
      → (LeavesUnstarted i d × PrintsWhole e []) ⊎ ReplayIsRun start i d.states e (Err unwritten.Memory)
  -- 0 of `trial`: all its events are one run, and the sink has its seven numbers.
  pub tried : (trial : TrialWords) → Asks i.words (command.World (Trial trial)) → e.status ≡ 0
      → (summary : Summary) × TrialIsRun i d.states summary × PrintsWhole e (summary_text summary)
  -- 6, 7 of `trial`: the disks are unstarted; or all events are one run.
  pub tried_untold : (trial : TrialWords) → Asks i.words (command.World (Trial trial)) → (e.status ≡ 6) ⊎ (e.status ≡ 7)
      → LeavesUnstarted i d ⊎ ((summary : Summary) × TrialIsRun i d.states summary)

-- all that a command promises, and the headline
abbrev pub RunsBus : {V : Type 0} → BusInputs → CommandDisks V → Ending → Type 0
RunsBus i d e = RunsCommand i d e × RunsMachine i d e
