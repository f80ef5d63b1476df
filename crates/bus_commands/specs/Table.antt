-- The table of answers of `run`: what a command promises, by status. The headline stands in Commands.antt, which says
-- in its first lines, and above each `use`, what most of the names mean.
use Rattle.std.specs.Prelude.{◌≡◌, ◌⊎◌, ℕ, ◌≤◌, List, [], codes, Some, None}
use Rattle.std.specs.Prelude.{Result, Ok, Err}
-- ---- what went in
use Rattle.bus_programs.specs.Inputs.{BusInputs}
use Rattle.bus_commands.specs.Inputs.{AsksOverBus, AsksWorld}
use Rattle.bus_commands.specs.Words.{Asks, AsksNothing}
use Rattle.bus_commands.specs.declared.words.Command.{Command}
use Rattle.bus_commands.specs.declared.words.Command.TheVariants as command
use Rattle.bus_commands.specs.declared.words.WorldCommand.TheVariants.{Replay, Trial}
use Rattle.bus_commands.specs.declared.trial_words.TrialWords.{TrialWords}
use Rattle.bus_world.specs.declared.start.Start.{Start}
use Rattle.bus_world.specs.declared.start.Start.TheVariants.{Format, Attach}
use Rattle.bus_commands.specs.Inputs.{OverLines, OverWorld}
use Rattle.bus_commands.specs.Tasks.{Task, replay}
use Rattle.bus_config.specs.Buses.{NamedBus, IsNamedBus}
-- `Offers`: the source tells these bytes, at most 1,048,576, and its count of faults neither rose nor is full.
-- `OffersTask`, `OffersTrial`: it is asked for, and the source of its bus file, if it has one, so tells one with this
-- bus.
use Rattle.program_edge.specs.Inputs.{Offers}
use Rattle.bus_commands.specs.Inputs.{OffersTask, OffersTrial}
-- `IsUnread`: nothing was asked of the source. `CountsFault`: its count of faults rose. `CountsTooMuch`: by its count
-- of bytes more than 1,048,576 came.
use Rattle.program_edge.specs.Inputs.{IsUnread, CountsFault, CountsTooMuch}
-- `NoConfig`: a bus file was asked for and not had, and of the lines nothing was read. `NoScript`: the lines weren't
-- had, and the bus file is valid, if one is read. Why: `ReadFault`, the source's count of faults rose or is full; or
-- `TooLong`, it stood still, and one byte more than 1,048,576 came.
use Rattle.bus_commands.specs.Inputs.{NoConfig, NoScript}
use Rattle.program_edge.specs.declared.input.InputFault.TheVariants.{ReadFault, TooLong}
-- `bus_of`: the bus of a bus file, or its first fault. `IsConfigFault`: it was read whole, and this is its first fault.
-- `fault_of`: the first fault of lines, if they have one.
use Rattle.bus_config.specs.declared.fault.ConfigFault.{ConfigFault}
use Rattle.bus_config.specs.BusFile.{bus_of}
use Rattle.bus_config.specs.FaultTexts.{config_fault_text}
use Rattle.bus_programs.specs.BusFiles.{IsConfigFault}
use Rattle.bus_commands.specs.Texts.{fault_of}
use Rattle.text_lines.specs.Readings.{Fault}
use Rattle.text_lines.specs.Texts.{fault_text_of}
-- ---- the disks
use Rattle.bus_commands.specs.StartRows.{CommandDisks, HoldsNoNode}
use Rattle.bus_world.specs.StartAnswers.{DiskStates, BusHasDisks, CountsDiskFault, failed_row}
use Rattle.bus_world.specs.Starts.{HasRoom, FindsRoom}
use Rattle.bus_world.specs.declared.start.StartFault.{StartFault}
use Rattle.bus_world.specs.StartRows.{start_row, StoreCause, LeavesEach}
-- ---- how it ended
use Rattle.program_edge.specs.Endings.{Ending, PrintsWhole, PrintsFront, EndsIn, MayEndIn, EndsInRow}
use Rattle.program_edge.specs.Endings.{CountsWriteFault, SinkFailed}
use Rattle.bus_commands.specs.Texts.{usage, IsOutput}
use Rattle.bus_commands.specs.declared.summary.Summary.{Summary}
use Rattle.bus_commands.specs.Summaries.{summary_text}
-- `ReplaysScript`: a valid replay is asked for, and all that it reads was read whole. Over disks of any kind it was
-- started, `replay` over disks that it formatted and `node` where its disks stand, and did its first events, `Written`
-- so. Each was a turn of its node alone, and a step of the machine. But a cut over a disk that doesn't tell bytes that
-- fit may leave the node up with whatever its store has, or down. The count of its disk rose (or is full) if the line
-- tells that it failed, and rose nowhere else. Nothing is undone: the disks are as the last turn left them, or the
-- start, if no event was done. `TriesEvents`: a valid trial did all its events so, and their lines have this summary.
use Rattle.bus_commands.specs.Rows.{ReplaysScript, TriesEvents}
use Rattle.run_driver.specs.declared.printing.Unwritten.{Unwritten}
use Rattle.run_driver.specs.declared.printing.Unwritten.TheVariants as unwritten
use Rattle.bus_commands.specs.Rows.{ComesInRun, RowOrReplay}
use Rattle.program_edge.specs.Rows.{memory_row}

-- exactly what `frame`, `judge` or `check` answers to the lines was printed
abbrev pub PrintsAnswers : BusInputs → Ending → Type 0
PrintsAnswers i e = OverLines i (λ task input. (text : List ℕ) × IsOutput task input text × PrintsWhole e text)

-- all events of a trial were done, and its seven lines were printed
abbrev pub PrintsSummary : BusInputs → DiskStates → Ending → Type 0
PrintsSummary i d e = (summary : Summary) × TriesEvents i d summary × PrintsWhole e (summary_text summary)

-- what 0 says of each command: of lines, their answers; of a replay, that all events were done and all lines written;
-- of a trial, all events and its summary
abbrev pub DoesAll : Command → BusInputs → DiskStates → Ending → Type 0
DoesAll (command.Lines asked) i d e = PrintsAnswers i e
DoesAll (command.World (Replay start)) i d e = ReplaysScript i d e (Ok tt)
DoesAll (command.World (Trial trial)) i d e = PrintsSummary i d e

-- what a command leaves of the disks; that of an unfinished start comes at 6, 7 and 10 alone
pub data LeavesDisks {V : Type 0} (i : BusInputs) (d : CommandDisks V) (e : Ending) : Type 0 where
  as_before : d.new ≡ d.old → LeavesDisks i d e
  by_unfinished_start : (e.status ≡ 6) ⊎ (e.status ≡ 7) ⊎ (e.status ≡ 10)
      → OverWorld i (λ start bus events. LeavesEach start bus d.states.before d.states.after) → LeavesDisks i d e
  by_replay : (result : Result (Unit {0}) Unwritten) → ReplaysScript i d.states e result → LeavesDisks i d e
  by_trial : (summary : Summary) → TriesEvents i d.states summary → LeavesDisks i d e

-- a replay did its first events, or a trial all
abbrev pub DoesEvents : BusInputs → DiskStates → Ending → Type 0
DoesEvents i d e = ((result : Result (Unit {0}) Unwritten) × ReplaysScript i d e result)
    ⊎ ((summary : Summary) × TriesEvents i d summary)

-- if a replay is to be done, its bus has disks that serve
abbrev pub TaskHasDisks : Task → DiskStates → Type 0
TaskHasDisks (replay start bus) d = BusHasDisks start bus d
TaskHasDisks task d = Unit {0}

-- THE TABLE OF ANSWERS: what a command promises, by status. "Both ways": the status has this cause, over files too, and
-- the cause brings the status: of 2, 5, 6 and 8 always, of 3, 4 and 9 if the sources tell what they have and didn't
-- fail. A sink whose count of faults rises makes it 6 instead (one whose count is full may); and 0, 3, 4, 9 and 10 may
-- give way to 7, out of memory: no clause says that memory was out, and none brings 7.

-- of any command: how it ends, which statuses come, what it reads, and what 0 says
pub record TellsCommand {V : Type 0} (i : BusInputs) (d : CommandDisks V) (e : Ending) : Type 0 where
  -- The program prints a row that comes, or a replay did its first events or all. What that says of each status
  -- follows.
  pub ends : RowOrReplay i d e
  -- No status comes but 0 and 2 to 10.
  pub statuses : (e.status ≡ 0) ⊎ ((2 ≤ e.status) × (e.status ≤ 10))
  -- Only a command that has a bus file reads one, and a trial reads no lines.
  pub config_unread : ¬ AsksOverBus i.words → IsUnread i.config
  pub lines_unread : (trial : TrialWords) → Asks i.words (command.World (Trial trial)) → IsUnread i.script
  -- 0: the command that is asked for read its inputs whole, and did all.
  pub done : e.status ≡ 0 → (asked : Command) × Asks i.words asked × DoesAll asked i d.states e

-- 2, 3 and 4: the arguments are malformed; the bus file has a fault; a line has one
pub record RefusesInputs {V : Type 0} (i : BusInputs) (d : CommandDisks V) (e : Ending) : Type 0 where
  -- 2, both ways: the arguments are malformed; nothing was read; the usage line is printed.
  pub usage_told : e.status ≡ 2 → AsksNothing i.words × IsUnread i.config × IsUnread i.script × PrintsWhole e usage
  pub usage_only : AsksNothing i.words → EndsIn 2 e
  -- 3, both ways: the bus file was read whole and has a fault, and its first fault is printed. No lines were read.
  pub config_refused : e.status ≡ 3 → AsksOverBus i.words × IsUnread i.script
      × ((fault : ConfigFault) × IsConfigFault i.config fault
      × (text : List ℕ) × (config_fault_text fault ≡ Some text) × PrintsWhole e text)
  pub config_refused_only : (file : List ℕ) (fault : ConfigFault) → AsksOverBus i.words
      → Offers i.config file → bus_of file ≡ Err fault → MayEndIn 3 e
  -- 4, both ways: the inputs were read whole and the lines have a fault, and the first fault is printed.
  pub refused : e.status ≡ 4 → OverLines i (λ task input. (fault : Fault) × (fault_of task input ≡ Some fault)
      × PrintsWhole e (fault_text_of fault))
  pub refused_only : (task : Task) (input : List ℕ) (fault : Fault) → OffersTask i task
      → Offers i.script input → fault_of task input ≡ Some fault → MayEndIn 4 e

-- 5 to 8: a source failed; the sink failed; out of memory; a source had too much
pub record TellsPorts {V : Type 0} (i : BusInputs) (d : CommandDisks V) (e : Ending) : Type 0 where
  -- 5, both ways: the count of faults of a source that was read rose; 5 may come if it is full, too. It is the bus
  -- file's, and no line was read; or the lines', and the bus file, if one is read, is valid.
  pub read_fault : e.status ≡ 5 → (NoConfig i ReadFault ⊎ NoScript i ReadFault) × PrintsWhole e (codes "read fault\n")
  pub read_fault_only : CountsFault i.config ⊎ CountsFault i.script → EndsIn 5 e
  -- 6, both ways: the sink's count of faults rose; 6 may come if it is full, too. A prefix was written of a row that
  -- comes; or of a replay the lines before one, and a prefix of this.
  pub write_fault : e.status ≡ 6 → SinkFailed e
      × (PrintsFront (ComesInRun i d) e ⊎ ReplaysScript i d.states e (Err unwritten.SinkFailed))
  pub write_fault_only : CountsWriteFault e → e.status ≡ 6
  -- 7, one way: its row comes (of inputs, at a start at which no disk failed, or after a trial's events), and nothing
  -- was written; or of a replay the lines before one, and nothing of this.
  pub no_memory : e.status ≡ 7 → (ComesInRun i d memory_row × PrintsWhole e [])
      ⊎ ReplaysScript i d.states e (Err unwritten.Memory)
  -- 8, both ways: one byte more than 1,048,576 came from a source, whose count of faults stood still; of the bus file
  -- or of the lines, as at 5.
  pub too_long : e.status ≡ 8 → (NoConfig i TooLong ⊎ NoScript i TooLong) × PrintsWhole e (codes "input too long\n")
  pub too_long_only : CountsTooMuch i.config ⊎ CountsTooMuch i.script → EndsIn 8 e

-- what is left of the disks, and what is said of one that failed
pub record TellsDisks {V : Type 0} (i : BusInputs) (d : CommandDisks V) (e : Ending) : Type 0 where
  -- Every disk is as before if no world is asked for, and at 2, 3, 4, 5, 8 and 9.
  pub disks : ¬ AsksWorld i.words → d.new ≡ d.old
  pub disks_unused : (e.status ≡ 2) ⊎ (e.status ≡ 3) ⊎ (e.status ≡ 4) ⊎ (e.status ≡ 5) ⊎ (e.status ≡ 8)
      ⊎ (e.status ≡ 9) → d.new ≡ d.old
  pub leaves : LeavesDisks i d e
  -- If the count of faults of a disk rose, the status is 10 with the row of its node, or 6 with a prefix of it. Or a
  -- replay did its first events, or a trial all. (If a disk's past isn't told, a failed start may look like a first
  -- event that failed.)
  pub failed_disk_told : (place : ℕ) → CountsDiskFault d.states place
      → EndsInRow (λ row. row ≡ failed_row place) e ⊎ DoesEvents i d.states e

-- 9, 10 and 0 of what is valid: the disks are too few or too small; a store is refused; or all is done
pub record TellsValid {V : Type 0} (i : BusInputs) (d : CommandDisks V) (e : Ending) : Type 0 where
  -- 9, both ways: all that is read is valid. There are fewer disks than nodes, or the disk of a node is too small, and
  -- the first such node is named.
  pub disks_refused : e.status ≡ 9 → OverWorld i (λ start bus events.
      IsNamedBus bus × (d.states.after ≡ d.states.before)
      × ((fault : StartFault) × FindsRoom bus d.states.before fault × PrintsWhole e (start_row fault).text))
  pub disks_refused_only : (start : Start) (bus : NamedBus) (input : List ℕ) → OffersTask i (replay start bus)
      → Offers i.script input → fault_of (replay start bus) input ≡ None → ¬ HasRoom bus d.states.before → MayEndIn 9 e
  pub trial_disks_refused_only : (bus : NamedBus) → OffersTrial i bus → ¬ HasRoom bus d.states.before → MayEndIn 9 e
  -- 10: all that is read is valid, the disks are large enough, and the row of a node is printed: its disk failed, and
  -- wasn't quiet; or it didn't fail, and its bytes are refused. Told bytes are refused of `node` alone, if it can't go
  -- on over them; of others no cause is said. Told ones of the nodes before it are good. The disks are as an unfinished
  -- start may leave them.
  pub store_refused : e.status ≡ 10 → OverWorld i (λ start bus events.
      HasRoom bus d.states.before × LeavesEach start bus d.states.before d.states.after
      × ((fault : StartFault) × StoreCause start bus d.states.before d.states.after fault
      × PrintsWhole e (start_row fault).text))
  -- A valid `node`, which the sources tell without a fault, ends with 10, 6 or 7 on one condition. Its disks are large
  -- enough, and one tells bytes over which its node can't go on.
  pub store_refused_only : (bus : NamedBus) (input : List ℕ) → OffersTask i (replay Attach bus)
      → Offers i.script input → fault_of (replay Attach bus) input ≡ None → HasRoom bus d.states.before
      → HoldsNoNode bus d.states.before → MayEndIn 10 e
  -- What is valid ends with 0 or 7 on three conditions. The sources tell it and didn't fail. The sink's count of faults
  -- neither rose nor is full. A world has disks that serve and tell their bytes.
  pub complete : (task : Task) (input : List ℕ) → OffersTask i task → Offers i.script input → fault_of task input ≡ None
      → TaskHasDisks task d.states → ¬ SinkFailed e → (e.status ≡ 0) ⊎ (e.status ≡ 7)
  pub trial_complete : (bus : NamedBus) → OffersTrial i bus → BusHasDisks Format bus d.states → ¬ SinkFailed e
      → (e.status ≡ 0) ⊎ (e.status ≡ 7)

-- all of the table, in these five parts
pub record RunsCommand {V : Type 0} (i : BusInputs) (d : CommandDisks V) (e : Ending) : Type 0 where
  pub tells : TellsCommand i d e
  pub inputs : RefusesInputs i d e
  pub ports : TellsPorts i d e
  pub disks : TellsDisks i d e
  pub valid : TellsValid i d e
