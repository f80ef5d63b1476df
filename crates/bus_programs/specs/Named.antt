-- What comes of the words of a program over a bus: the sources that they name, and the disks that are made for it
use Rattle.std.specs.Prelude.{◌≡◌, ◌≢◌, ◌⊎◌, ℕ, List, [], Option, Vec}
use Rattle.std.specs.declared.alloc.Global.{Global}
use Rattle.bus_port.specs.Source.{SourceState}
use Rattle.cut_disk.specs.declared.mem_disk.MemDisk.{MemDisk}
use Rattle.program_edge.specs.Inputs.{Offers}
use Rattle.program_edge.specs.Endings.{Ending}
use Rattle.program_edge.specs.NamedSources.{missing_source, Openings, OverTwoNamed}
use Rattle.bus_world.specs.StartAnswers.{DiskStates}
use Rattle.bus_programs.specs.Blank.{AreBlank, disk_states}
use Rattle.bus_programs.specs.Inputs.{BusInputs}

-- what was known of both sources as they were handed back
pub record SourcesBack : Type 0 where
  pub config : SourceState
  pub script : SourceState

-- This was had with these words over the sources that two of them name, that of the bus file and that of the lines. Each
-- of the two is opened once, and no other; the sources are handed back as they were left. If both are `-`, the bus file
-- has the input, and the lines are missing.
pub record HadOverNamed (opens : List ℕ → SourceState → Type 0) (before after : Openings) (back : SourcesBack)
    (words : List (List ℕ)) (Names : Option (List ℕ) → Option (List ℕ) → Type 0) (Has : BusInputs → Type 0)
    : Type 0 where
  pub config : Option (List ℕ)
  pub script : Option (List ℕ)
  pub names : Names config script
  pub over : OverTwoNamed opens before after config script back.config back.script
      (λ bus lines. Has (record { words = words; config = bus; script = lines }))

-- the inputs of that run
abbrev pub inputs_had : {opens : List ℕ → SourceState → Type 0} → {before after : Openings} → {back : SourcesBack}
    → {words : List (List ℕ)} → {Names : Option (List ℕ) → Option (List ℕ) → Type 0} → {Has : BusInputs → Type 0}
    → HadOverNamed opens before after back words Names Has → BusInputs
inputs_had {words = words} had = record { words = words; config = had.over.one; script = had.over.other }

-- there was no memory for the disks or the inputs: nothing was written or opened, and both sources are missing
pub record WantsMemory (before after : Openings) (back : SourcesBack) (e : Ending) : Type 0 where
  pub status_is : e.status ≡ 7
  pub unwritten : e.after ≡ e.before
  pub unopened : after ≡ before
  pub config_missing : back.config ≡ missing_source 0
  pub script_missing : back.script ≡ missing_source 0

-- ---- programs with an example

-- all that a run promises, over the disks that were made for it: so many of 65,536 bytes, if its words ask for a run
pub record RunsOverMade (Asks : List (List ℕ) → Type 0) (count : ℕ)
    (Runs : Type 0 → BusInputs → DiskStates → Ending → Type 0) (i : BusInputs) (e : Ending) : Type 0 where
  pub made : Vec MemDisk Global
  pub left : Vec MemDisk Global
  pub given : Asks i.words → AreBlank count 65536 made.items
  pub runs : Runs (left ≡ made) i (record { before = disk_states made.items; after = disk_states left.items }) e

-- a worked example: its words, over sources that tell its bus file and its script, and don't fail
pub record IsExample (words : List (List ℕ)) (bus_text script_text : List ℕ) (i : BusInputs) : Type 0 where
  pub words_are : i.words ≡ words
  pub config : Offers i.config bus_text
  pub script : Offers i.script script_text

-- the example ran so
pub record RunsExample (Example : BusInputs → Type 0) (Runs : BusInputs → Ending → Type 0) (e : Ending) : Type 0 where
  pub inputs : BusInputs
  pub is : Example inputs
  pub ran : Runs inputs e

-- what comes of the words
pub data RunOfWords (Asks : List (List ℕ) → Type 0)
    (Names : List (List ℕ) → Option (List ℕ) → Option (List ℕ) → Type 0) (Example : BusInputs → Type 0)
    (Runs : BusInputs → Ending → Type 0) (opens : List ℕ → SourceState → Type 0) (before after : Openings)
    (back : SourcesBack) (words : List (List ℕ)) (e : Ending) : Type 0 where
  -- there are none: the example is run, and nothing is opened
  ran_example : words ≡ [] → after ≡ before → RunsExample Example Runs e
      → RunOfWords Asks Names Example Runs opens before after back words e
  -- the program runs over the sources that they name, which are handed back
  ran_words : words ≢ [] → HadOverNamed opens before after back words (Names words) (λ i. Runs i e)
      → RunOfWords Asks Names Example Runs opens before after back words e
  -- there was no memory for the disks of a run, or for the example
  ran_nothing : Asks words ⊎ (words ≡ []) → WantsMemory before after back e
      → RunOfWords Asks Names Example Runs opens before after back words e

-- what the statuses say of the words, if these words are malformed: 2 comes of malformed words alone; of such words it
-- comes, or 6; and 9 and 10 never come, as the disks that are made are enough, and don't fail as the bus starts
pub record StatusesOf (Malformed : List (List ℕ) → Type 0) (words : List (List ℕ)) (status : ℕ) : Type 0 where
  pub usage : status ≡ 2 → Malformed words
  pub usage_only : words ≢ [] → Malformed words → (status ≡ 2) ⊎ (status ≡ 6)
  pub starts : (status ≢ 9) × (status ≢ 10)
