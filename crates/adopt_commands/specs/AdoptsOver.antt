-- What taking over entries promises, over the file and the disk that the arguments name
use Rattle.std.specs.Prelude.{◌≡◌, ℕ, Bool, if◌then◌else◌, List, [], ◌∷◌, ◌++◌}
use Rattle.bus_port.specs.Source.{SourceState}
use Rattle.cut_disk.specs.State.{DiskState}
use Rattle.file_disk.specs.NamedDisks.{IsOpenedBy, OpenedByWords}
use Rattle.program_edge.specs.Endings.{Ending}
use Rattle.ledger_commands.specs.Named.{OverAllNamed}
use Rattle.adopt_commands.specs.AdoptFiles.{adoption_files, ledger_word}
use Rattle.adopt_commands.specs.AdoptRuns.{RunsAdoption}

-- no disk was opened; or the one that this argument opens, once, which tells its bytes, none of them loose
pub data OpensDisk (opens : List ℕ → DiskState → Type 0) (before after : List (List ℕ)) (word : List ℕ)
    : List DiskState → Type 0 where
  none_opened : after ≡ before → OpensDisk opens before after word []
  one_opened : (disks : List DiskState) → IsOpenedBy opens word disks → after ≡ before ++ word ∷ []
      → OpensDisk opens before after word disks

-- All that is promised was had over the file that the argument after the ledger names, if a backup or another ledger is
-- taken over, and over the disk that the ledger's argument names. Each was opened at most once, and no other; they were
-- left as those that are handed back.
pub record AdoptsOver (opens : List ℕ → SourceState → Type 0) (disk_opens : List ℕ → DiskState → Type 0)
    (o : OpenedByWords) (words : List (List ℕ)) (left : List SourceState) (disks : List DiskState)
    (e : Ending) : Type 0 where
  pub before : List DiskState
  pub disk_named : OpensDisk disk_opens o.disks_before o.disks_after (ledger_word words) before
  pub over_files : OverAllNamed opens o.before o.after (adoption_files words) left
      (λ files. RunsAdoption (record { words = words; files = files; before = before; after = disks }) e)

-- By these words disks were opened. If a file may be made, the file of each of them was, if it wasn't there; and no other
-- file was made.
abbrev pub MakesOpened : Bool → List (List ℕ) → List (List ℕ) → List (List ℕ) → List (List ℕ) → Type 0
MakesOpened may before after made_before made_after =
    (words : List (List ℕ)) × (after ≡ before ++ words) × (made_after ≡ made_before ++ (if may then words else []))
