-- A disk in memory that tells its past: what it means, and what each call adds to the past.
use Rattle.std.specs.Prelude.{ℕ, List, [], ◌∷◌, Option, Some, None}
use Rattle.cut_disk.specs.declared.tape_disk.TapeDisk.{TapeDisk}
use Rattle.cut_disk.specs.State.{Entry, Mark, past_entry, DiskState}
use Rattle.cut_disk.specs.Memory.{Contents, fresh, told_of, disk_of}
use Rattle.cut_disk.specs.MemDisk.{contents}
use Rattle.cut_disk.specs.Tape.{with_entry}

-- the disk in memory, the greatest number of entries, and the past as long as it has no more
pub record TapeContents : Type 0 where
  pub disk : Contents
  pub room : ℕ
  pub past : Option (List Entry)

-- the past of a new disk is its first state, without a mark
abbrev pub fresh_tape : ℕ → List ℕ → TapeContents
fresh_tape room bytes =
    record { disk = fresh bytes; room = room; past = Some (past_entry (told_of (fresh bytes)) None ∷ []) }

-- a call with this mark left the disk in memory like this, and that is the entry that it adds
abbrev pub noted : Option Mark → Contents → TapeContents → TapeContents
noted mark left t =
    record { disk = left; room = t.room; past = with_entry t.room (past_entry (told_of left) mark) t.past }

-- what the disk means: all that the disk in memory means, and the past
abbrev pub tape_disk_of : TapeContents → DiskState
tape_disk_of t = record (disk_of t.disk) { past = t.past }

-- what a disk that tells its past holds
abbrev pub tape_contents : TapeDisk → TapeContents
tape_contents disk = record { disk = contents disk.disk; room = disk.tape.room; past = disk.tape.past }
