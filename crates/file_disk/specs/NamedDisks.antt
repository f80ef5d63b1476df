-- Disks that words of a command line name
use Rattle.std.specs.Prelude.{◌≡◌, ℕ, List, [], ◌∷◌, ◌++◌, length, Option, Some, None}
use Rattle.program_edge.specs.NamedSources.{Openings}
use Rattle.cut_disk.specs.State.{DiskState}
use Rattle.cut_disk.specs.Images.{firm}
use Rattle.file_disk.specs.FileDisk.{FileContents, file_disk_of, IsJustOpened}

-- a disk over a file opened just now: nothing is armed on it, no call of it has failed, and it tells its bytes
pub record IsFreshFileDisk (disk : DiskState) : Type 0 where
  pub file : FileContents
  pub over : disk ≡ file_disk_of file
  pub opened : IsJustOpened file

-- the disk tells its bytes, as many as it has, and a power cut can take none of them away
pub record TellsFirmBytes (disk : DiskState) : Type 0 where
  pub bytes : List ℕ
  pub sized : length bytes ≡ disk.size
  pub told : disk.told ≡ Some (firm bytes)

-- one disk, with what is known of one that this argument opens; and it tells its bytes
pub record IsOpenedBy (opens : List ℕ → DiskState → Type 0) (word : List ℕ) (disks : List DiskState) : Type 0 where
  pub disk : DiskState
  pub one : disks ≡ disk ∷ []
  pub opened : opens word disk
  pub tells : TellsFirmBytes disk

-- the words that disks were opened by, behind a word that opens one
abbrev pub with_opened : Option (List ℕ) → List (List ℕ) → List (List ℕ)
with_opened None opened = opened
with_opened (Some word) opened = opened ++ word ∷ []

-- the disks of a command: the one that its word opens, once; or none, if there is no word
pub record DisksAreNamed (opens : List ℕ → DiskState → Type 0) (before after : List (List ℕ))
    (word : Option (List ℕ)) (disks : List DiskState) : Type 0 where
  pub none : word ≡ None → disks ≡ []
  pub one : (name : List ℕ) → word ≡ Some name → IsOpenedBy opens name disks
  pub opened_once : after ≡ with_opened word before

-- what there was to open for a command of sources and disks, before it and after it: the words that sources were opened
-- by, with the input, and the words that disks were opened by, the oldest first
pub record OpenedByWords : Type 0 where
  pub before : Openings
  pub after : Openings
  pub disks_before : List (List ℕ)
  pub disks_after : List (List ℕ)

-- nothing was opened
pub record OpensNothing (o : OpenedByWords) : Type 0 where
  pub sources : o.after ≡ o.before
  pub disks : o.disks_after ≡ o.disks_before
