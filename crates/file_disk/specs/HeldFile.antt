-- A file with its bytes in memory: what it means, and what a call of it does.
use Rattle.std.specs.Prelude.{◌≡◌, ℕ, ◌+◌, min, Bool, true, false, not, ◌&&◌, if◌then◌else◌, List, length}
use Rattle.std.specs.Prelude.{replicate, slice_range, Option}
use Rattle.cut_disk.specs.Images.{splice}
use Rattle.file_disk.specs.declared.byte_file.ByteFile.{Ghosts}
use Rattle.file_disk.specs.declared.held_file.HeldFile.{HeldFile}
use Rattle.file_disk.specs.FileBytes.{GivesBytes}
use Rattle.file_disk.specs.FileCalls.{FileCall, ReadAt, WriteAt, SyncAll, Notes}

-- the bytes in memory, whether there is a file, whether it ever read otherwise than it was written, and the calls of
-- the file below, if that tells them
pub record HeldContents : Type 0 where
  pub bytes : List ℕ
  pub is_open : Bool
  pub differs : Bool
  pub calls : Option (List FileCall)

abbrev pub held_contents : {F : Type 0} {g : Ghosts F} → HeldFile F g → HeldContents
held_contents {F} {g} file =
    record { bytes = file.bytes.items; is_open = file.is_open; differs = file.differs; calls = g.calls file.file }

-- whether a call of it is passed on to the file below
abbrev pub is_asked : HeldContents → Bool
is_asked c = c.is_open && not c.differs

-- what memory holds of a file of this size when it is opened: its first bytes, at most 131,072, as one read gave them.
-- If there is no file or this read failed, it is 65,536 zeros, and then there is no file
pub record HoldsFirst (size : ℕ) (calls : Option (List FileCall)) (told : Option (List ℕ)) (held : HeldContents)
    : Type 0 where
  pub out : List ℕ
  pub read : Notes (ReadAt 0 out held.is_open) calls held.calls
  pub opened : held.is_open ≡ true → held.bytes ≡ out
  pub sized : held.is_open ≡ true → length held.bytes ≡ min size 131072
  pub as_told : held.is_open ≡ true → GivesBytes 0 held.bytes told
  pub none : held.is_open ≡ false → held.bytes ≡ replicate 65536 0
  pub as_written : held.differs ≡ false

-- A read of a file that is asked, which is Ok or not: the file below was read over the same range. A failure of it is
-- one, and Ok is that it gave the held bytes; if it gave others the file has read otherwise from now on.
pub record ReadsBelow (at : ℕ) (out : List ℕ) (ok : Bool) (old new : HeldContents) : Type 0 where
  pub below : Bool
  pub noted : Notes (ReadAt at out below) old.calls new.calls
  pub failed : below ≡ false → ok ≡ false
  pub held : ok ≡ true → out ≡ slice_range old.bytes at (at + length out)
  pub only : below ≡ true → out ≡ slice_range old.bytes at (at + length out) → ok ≡ true
  pub differs : new.differs ≡ (below && not ok)

-- A read. If the file isn't asked it fails, and all is as before.
pub record ReadsHeld (at : ℕ) (out : List ℕ) (ok : Bool) (old new : HeldContents) : Type 0 where
  pub bytes : new.bytes ≡ old.bytes
  pub is_open : new.is_open ≡ old.is_open
  pub unasked : is_asked old ≡ false → ok ≡ false
  pub untouched : is_asked old ≡ false → new ≡ old
  pub passed : is_asked old ≡ true → ReadsBelow at out ok old new

-- A write: the same, and the held bytes get these if the file below did.
pub record WritesHeld (at : ℕ) (put : List ℕ) (ok : Bool) (old new : HeldContents) : Type 0 where
  pub is_open : new.is_open ≡ old.is_open
  pub differs : new.differs ≡ old.differs
  pub unasked : is_asked old ≡ false → ok ≡ false
  pub untouched : is_asked old ≡ false → new.calls ≡ old.calls
  pub passed : is_asked old ≡ true → Notes (WriteAt at put ok) old.calls new.calls
  pub bytes : new.bytes ≡ (if ok then splice at put old.bytes else old.bytes)

-- A sync: the same, and no byte changes.
pub record SyncsHeld (ok : Bool) (old new : HeldContents) : Type 0 where
  pub bytes : new.bytes ≡ old.bytes
  pub is_open : new.is_open ≡ old.is_open
  pub differs : new.differs ≡ old.differs
  pub unasked : is_asked old ≡ false → ok ≡ false
  pub untouched : is_asked old ≡ false → new.calls ≡ old.calls
  pub passed : is_asked old ≡ true → Notes (SyncAll ok) old.calls new.calls
