-- What the arguments of a command name, and what comes of them
use Rattle.std.specs.Prelude.{◌≡◌, ◌⊎◌, ◌≤◌, ℕ, List, [], ◌∷◌, ◌++◌, map, Option, Vec, Result}
use Rattle.std.specs.declared.alloc.Global.{Global}
use Rattle.bus_port.specs.Source.{SourceState}
use Rattle.cut_disk.specs.State.{DiskState}
use Rattle.cut_disk.specs.declared.mem_disk.MemDisk.{MemDisk}
use Rattle.file_disk.specs.NamedDisks.{IsOpenedBy, OpenedByWords}
use Rattle.program_edge.specs.NamedSources.{Openings}
use Rattle.program_edge.specs.Endings.{Ending, EndsInRow}
use Rattle.run_driver.specs.declared.printing.Unwritten.{Unwritten}
use Rattle.bus_machine.specs.Bus.{World}
use Rattle.bus_config.specs.Buses.{IsNamedBus}
use Rattle.bus_world.specs.declared.start.Start.TheVariants.{Attach}
use Rattle.bus_world.specs.Starts.{StartsOver}
use Rattle.bus_world.specs.StartAnswers.{DiskStates}
use Rattle.bus_programs.specs.Blank.{AreBlank, disk_states}
use Rattle.bus_programs.specs.Inputs.{BusInputs}
use Rattle.bus_programs.specs.Named.{SourcesBack, HadOverNamed, inputs_had, WantsMemory}
use Rattle.bus_commands.specs.declared.words.Command.TheVariants as command
use Rattle.bus_commands.specs.declared.words.WorldCommand.TheVariants.{Replay}
use Rattle.bus_commands.specs.Words.{Asks, NamesConfig, NamesScript, NamesDisk, IsTheWord}
use Rattle.bus_commands.specs.Inputs.{AsksWorld, OverReplayOf}
use Rattle.bus_commands.specs.StartRows.{CommandDisks, disks_between}
use Rattle.bus_commands.specs.Rows.{ComesOfInputs, ReplaysScript}
use Rattle.bus_commands.specs.Commands.{RunsBus, WrittenRun}

-- which of the arguments name the bus file and the lines
abbrev pub NamesSources : List (List ℕ) → Option (List ℕ) → Option (List ℕ) → Type 0
NamesSources words config script = IsTheWord (NamesConfig words) config × IsTheWord (NamesScript words) script

-- all that a command promises holds of these arguments, over these disks and over the sources that the arguments name.
-- Each is opened once, and no other. A source that no word names is missing. The sources are handed back
abbrev pub RunsOver : {V : Type 0} → (List ℕ → SourceState → Type 0) → Openings → Openings → SourcesBack
    → List (List ℕ) → CommandDisks V → Ending → Type 0
RunsOver opens before after back words d e =
    HadOverNamed opens before after back words (NamesSources words) (λ i. RunsBus i d e)

-- ---- disks in memory

-- eight of 65,536 bytes for a replay or a trial, and none for other arguments
abbrev pub AreGiven : List (List ℕ) → List MemDisk → Type 0
AreGiven words disks = (AsksWorld words → AreBlank 8 65536 disks) × (¬ AsksWorld words → disks ≡ [])

-- the disks that were made, and these as the command left them
abbrev pub made_disks : Vec MemDisk Global → Vec MemDisk Global → CommandDisks (Vec MemDisk Global)
made_disks old new =
    record { old = old; new = new; states = record { before = disk_states old.items; after = disk_states new.items } }

-- the arguments name no disk: they ran over those that are made for them
pub record RunsGiven (opens : List ℕ → SourceState → Type 0) (before after : Openings) (back : SourcesBack)
    (words : List (List ℕ)) (e : Ending) : Type 0 where
  pub no_disk : (name : List ℕ) → ¬ NamesDisk words name
  pub made : Vec MemDisk Global
  pub used : Vec MemDisk Global
  pub given : AreGiven words made.items
  pub over : RunsOver opens before after back words (made_disks made used) e

-- ---- the disk that a word names

-- a valid `node` is asked for, and it is one run of the machine. It begins at a world in which the bus goes on where
-- its disk stands
abbrev pub NodeIsRun : BusInputs → DiskStates → Ending → Result (Unit {0}) Unwritten → Type 0
NodeIsRun i d e result = OverReplayOf Attach i (λ bus events. (first : World) × StartsOver bus d.before first
    × WrittenRun first bus d events e result)

-- `node` ran over the one disk that its last argument opens, once, and it is handed back. It was opened only because
-- the inputs were read whole and are valid. That disk tells its bytes, whatever the argument opens, and a power cut can
-- take none of them away. So all promises over such disks hold, with the causes of 10 and the headline.
pub record RunsOpened {D : Type 0} (state : D → DiskState) (opens : List ℕ → SourceState → Type 0)
    (opens_disk : List ℕ → DiskState → Type 0) (o : OpenedByWords) (back : SourcesBack) (left : Vec D Global)
    (words : List (List ℕ)) (e : Ending) : Type 0 where
  pub name : List ℕ
  pub disk_named : NamesDisk words name
  pub disks : Vec D Global
  pub opened : IsOpenedBy opens_disk name (map state disks.items)
  pub opened_once : o.disks_after ≡ o.disks_before ++ name ∷ []
  pub over : RunsOver opens o.before o.after back words (disks_between state disks left) e
  pub valid : OverReplayOf Attach (inputs_had over) (λ bus events. IsNamedBus bus)
  -- what refuses inputs doesn't come
  pub statuses : (e.status ≡ 0) ⊎ (e.status ≡ 6) ⊎ (e.status ≡ 7) ⊎ (e.status ≡ 9) ⊎ (e.status ≡ 10)
  -- at 0, and at 6 or 7 after its start, what it did is one run
  pub one_run : (result : Result (Unit {0}) Unwritten)
      → ReplaysScript (inputs_had over) (disks_between state disks left).states e result
      → NodeIsRun (inputs_had over) (disks_between state disks left).states e result

-- `node` ended before its disk was opened, and opened none: a row that comes of its inputs alone was printed, as they
-- are refused, or memory is out. All promises hold of it with no disks.
pub record RefusesNode {D : Type 0} (state : D → DiskState) (opens : List ℕ → SourceState → Type 0) (o : OpenedByWords)
    (back : SourcesBack) (left : Vec D Global) (words : List (List ℕ)) (e : Ending) : Type 0 where
  pub asks : Asks words (command.World (Replay Attach))
  pub not_opened : o.disks_after ≡ o.disks_before
  pub no_disks : left.items ≡ []
  pub over : RunsOver opens o.before o.after back words (disks_between state left left) e
  pub in_row : EndsInRow (ComesOfInputs (inputs_had over)) e
  -- 3 to 8
  pub statuses : (3 ≤ e.status) × (e.status ≤ 8)

-- ---- either

-- the arguments ask for a run over disks, for which there was no memory; nothing was written or opened
pub record WantsDisks (before after : Openings) (back : SourcesBack) (words : List (List ℕ)) (e : Ending) : Type 0 where
  pub asks : AsksWorld words
  pub wants : WantsMemory before after back e

-- what comes of the arguments after the program's name; a disk is opened, and handed back, for words that name one
-- alone, and only if their inputs are valid
pub data RunsNamed {D : Type 0} (state : D → DiskState) (opens : List ℕ → SourceState → Type 0)
    (opens_disk : List ℕ → DiskState → Type 0) (o : OpenedByWords) (back : SourcesBack) (left : Vec D Global)
    (words : List (List ℕ)) (e : Ending) : Type 0 where
  ran_in_memory : o.disks_after ≡ o.disks_before → left.items ≡ [] → RunsGiven opens o.before o.after back words e
      → RunsNamed state opens opens_disk o back left words e
  ran_over_disk : RunsOpened state opens opens_disk o back left words e
      → RunsNamed state opens opens_disk o back left words e
  refused_node : RefusesNode state opens o back left words e → RunsNamed state opens opens_disk o back left words e
  wanted_disks : o.disks_after ≡ o.disks_before → left.items ≡ [] → WantsDisks o.before o.after back words e
      → RunsNamed state opens opens_disk o back left words e
