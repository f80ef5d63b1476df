-- What the words of a key command open
use Rattle.std.specs.Prelude.{◌≡◌, ℕ, List, [], codes, map, Option, None}
use Rattle.clap.specs.Words.{first_of}
use Rattle.bus_port.specs.Source.{SourceState}
use Rattle.cut_disk.specs.State.{DiskState}
use Rattle.file_disk.specs.NamedDisks.{DisksAreNamed}
use Rattle.program_edge.specs.Inputs.{Reading, IsUnread}
use Rattle.program_edge.specs.Endings.{Ending}
use Rattle.key_commands.specs.declared.subcommands.Subcommand.TheVariants.{Load}
use Rattle.key_commands.specs.Subcommands.{NamesSubcommand}
use Rattle.key_commands.specs.Parsing.{refusals, found}
use Rattle.key_commands.specs.Rows.{Handed}
use Rattle.key_commands.specs.Keys.{Keys}

-- the file that the arguments name: the value FILE of a load whose arguments clap takes, and none of other arguments
pub data NamesFile (words : List (List ℕ)) (file : Option (List ℕ)) : Type 0 where
  of_load : NamesSubcommand words Load → refusals Load words ≡ [] → file ≡ first_of (codes "FILE") (found Load words)
      → NamesFile words file
  of_others : ¬ (NamesSubcommand words Load × (refusals Load words ≡ [])) → file ≡ None → NamesFile words file

-- all that a key command promises, over these arguments, this source of requests and these disks, before and after
abbrev pub RunsWords : {S D : Type 0} → (S → SourceState) → (D → DiskState) → List (List ℕ) → Handed S
    → Handed (List D) → Ending → Type 0
RunsWords source disk words request disks e = Keys
    (record {
      words = words;
      request = request;
      disks = disks;
      reading = record { before = source request.before; after = source request.after };
      known = record { before = map disk disks.before; after = map disk disks.after };
    }) e

-- the disks of a command: the one that the file's name opens, once; none if no file is named
pub record NamesLoadDisk (opens : List ℕ → DiskState → Type 0) (before after : List (List ℕ)) (words : List (List ℕ))
    (disks : List DiskState) : Type 0 where
  pub file : Option (List ℕ)
  pub names : NamesFile words file
  pub named : DisksAreNamed opens before after file disks

-- That was had over the one disk that the file's name opens, once, which tells its bytes, none of them loose: all that
-- is promised over such a disk, too; and over none if no file is named. The disks were left as those that are handed
-- back.
pub record RunsWithFile {S D : Type 0} (source : S → SourceState) (disk : D → DiskState)
    (opens : List ℕ → DiskState → Type 0) (by : Handed (List (List ℕ))) (words : List (List ℕ)) (request : Handed S)
    (left : List D) (e : Ending) : Type 0 where
  pub disks : List D
  pub named : NamesLoadDisk opens by.before by.after words (map disk disks)
  pub runs : RunsWords source disk words request (record { before = disks; after = left }) e

-- the arguments ask for a load, and there was no memory for them or for the disk: nothing was read, written or opened
pub record WantsFile (by : Handed (List (List ℕ))) (words : List (List ℕ)) (request : Reading) (left : List DiskState)
    (e : Ending) : Type 0 where
  pub asks : NamesSubcommand words Load
  pub status_is : e.status ≡ 7
  pub unwritten : e.after ≡ e.before
  pub unread : IsUnread request
  pub no_disk : left ≡ []
  pub unopened : by.after ≡ by.before
