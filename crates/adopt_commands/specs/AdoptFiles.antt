-- The file and the disk that arguments name, and how taking over entries over them ends
use Rattle.std.specs.Prelude.{◌≡◌, ℕ, ◌+◌, Bool, true, false, Option, Some, List, [], ◌∷◌, ◌++◌, Result, Ok}
use Rattle.bus_port.specs.Source.{SourceState}
use Rattle.cut_disk.specs.State.{DiskState}
use Rattle.file_disk.specs.NamedDisks.{IsOpenedBy, OpenedByWords}
use Rattle.text_lines.specs.Readings.{nth_word}
use Rattle.program_edge.specs.Rows.{memory_row}
use Rattle.program_edge.specs.Inputs.{Reading}
use Rattle.program_edge.specs.Endings.{Ending, EndsInRow}
use Rattle.key_campaign.specs.declared.entries.LedgerEntry.{LedgerEntry}
use Rattle.ledger_commands.specs.Named.{OverAllNamed}
use Rattle.adopt_commands.specs.declared.tasks.AdoptTask.{AdoptTask}
use Rattle.adopt_commands.specs.declared.tasks.AdoptTask.TheVariants as adopt
use Rattle.adopt_commands.specs.AdoptTasks.{may_make, ledger_place, adoption_asked}
use Rattle.adopt_commands.specs.AdoptRows.{AsksNoAdoption, GivesEntries, LacksEntries, EndsOverLedgers}

-- an entry that the ledger is ahead of is refused
abbrev pub is_strict : AdoptTask → Bool
is_strict (adopt.One entry) = true
is_strict (adopt.All kind) = false

-- the arguments that name a file to be read: the one after the ledger, if a backup or another ledger is taken over
abbrev pub files_asked : AdoptTask → List (List ℕ) → List (List ℕ)
files_asked (adopt.One entry) words = []
files_asked (adopt.All kind) words = nth_word words (ledger_place words + 1) ∷ []

-- the argument that names the ledger
abbrev pub ledger_word : List (List ℕ) → List ℕ
ledger_word words = nth_word words (ledger_place words)

-- the arguments that name a file: none if nothing is asked
abbrev pub files_of : Option (Result AdoptTask ℕ) → List (List ℕ) → List (List ℕ)
files_of (Some (Ok asked)) words = files_asked asked words
files_of other words = []

abbrev pub adoption_files : List (List ℕ) → List (List ℕ)
adoption_files words = files_of (adoption_asked words) words

-- how taking over these entries over the disk that an argument names ends: there was no memory for the disk, and none
-- was opened; or the one disk that it opens, once, was gone over, and is handed back
pub data EndsInto (opens : List ℕ → DiskState → Type 0) (before after : List (List ℕ)) (word : List ℕ)
    (may strict : Bool) (entries : List LedgerEntry) (left : List DiskState) (e : Ending) : Type 0 where
  no_room : after ≡ before → left ≡ [] → EndsInRow (λ row. row ≡ memory_row) e
      → EndsInto opens before after word may strict entries left e
  over_disk : (disks : List DiskState) → IsOpenedBy opens word disks → after ≡ before ++ word ∷ []
      → EndsOverLedgers may strict entries e disks left → EndsInto opens before after word may strict entries left e

-- how a task ends over the files that it names: in a row, and no disk was opened; or over the disk
pub data EndsAdoptTask (opens : List ℕ → DiskState → Type 0) (o : OpenedByWords) (words : List (List ℕ))
    (asked : AdoptTask) (left : List DiskState) (e : Ending) (files : List Reading) : Type 0 where
  in_row : EndsInRow (LacksEntries asked files) e → o.disks_after ≡ o.disks_before → left ≡ []
      → EndsAdoptTask opens o words asked left e files
  with_entries : (entries : List LedgerEntry) → GivesEntries asked files entries
      → EndsInto opens o.disks_before o.disks_after (ledger_word words) (may_make words) (is_strict asked) entries left e
      → EndsAdoptTask opens o words asked left e files

-- how the arguments end: they ask nothing, and nothing was opened; or they ask a task
pub data EndsAdoptWords (opens : List ℕ → SourceState → Type 0) (disk_opens : List ℕ → DiskState → Type 0)
    (o : OpenedByWords) (words : List (List ℕ)) (left : List SourceState) (disks : List DiskState)
    (e : Ending) : Type 0 where
  asks_nothing : EndsInRow (AsksNoAdoption (adoption_asked words)) e → o.after ≡ o.before → left ≡ []
      → o.disks_after ≡ o.disks_before → disks ≡ [] → EndsAdoptWords opens disk_opens o words left disks e
  asks_it : (asked : AdoptTask) → adoption_asked words ≡ Some (Ok asked)
      → OverAllNamed opens o.before o.after (files_asked asked words) left
      (EndsAdoptTask disk_opens o words asked disks e)
      → EndsAdoptWords opens disk_opens o words left disks e
