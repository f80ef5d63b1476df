-- A disk over a file: what it means, and what a call of it does.
use Rattle.std.specs.Prelude.{◌≡◌, ◌≤◌, ℕ, Bool, true, false, if◌then◌else◌, List, length, replicate, Option, Some}
use Rattle.std.specs.Prelude.{None}
use Rattle.basics.specs.FaultCount.{counted}
use Rattle.cut_disk.specs.declared.arming.Arms.{Arms}
use Rattle.cut_disk.specs.State.{Told, DiskState}
use Rattle.cut_disk.specs.Arming.{no_arms, fails, after_call, after_cut}
use Rattle.cut_disk.specs.Memory.{faults_after}
use Rattle.file_disk.specs.declared.byte_file.ByteFile.{Ghosts}
use Rattle.file_disk.specs.declared.file_disk.FileDisk.{FileDisk}
use Rattle.file_disk.specs.FileBytes.{loose_since, with_marks}
use Rattle.file_disk.specs.FileCalls.{FileCall, SyncAll, Notes}

-- the size, which calls are to fail, how many have failed, and whether there is a file. Its calls, if it tells them,
-- and its bytes with the loose marks, if it tells those
pub record FileContents : Type 0 where
  pub size : ℕ
  pub arms : Arms
  pub faults : ℕ
  pub is_open : Bool
  pub calls : Option (List FileCall)
  pub told : Option Told

-- what the disk means: it tells the bytes that its file tells, and no past, and is never quiet
abbrev pub file_disk_of : FileContents → DiskState
file_disk_of c = record { size = c.size; told = c.told; arms = c.arms; faults = c.faults; quiet = false; past = None }

-- nothing is armed, nothing has failed, and no byte is loose
abbrev pub fresh_file_disk : ℕ → Bool → Option (List FileCall) → Option (List ℕ) → FileContents
fresh_file_disk size is_open calls told =
    record {
      size = size;
      arms = no_arms;
      faults = 0;
      is_open = is_open;
      calls = calls;
      told = with_marks told (replicate size false);
    }

-- one call was counted, and its failure if it was armed to fail
abbrev pub counted_call : FileContents → FileContents
counted_call c = record c { arms = after_call c.arms; faults = faults_after c.arms c.faults }

-- A call of the disk, which is Ok or not: it was counted, and its failure too; if it was armed to fail it did, and the
-- file wasn't touched; otherwise this one call of the file was made, with the same outcome. If there is no file it
-- failed.
pub record Passes (call : FileCall) (ok : Bool) (old new : FileContents) : Type 0 where
  pub size : new.size ≡ old.size
  pub arms : new.arms ≡ after_call old.arms
  pub faults : new.faults ≡ (if ok then old.faults else counted old.faults)
  pub is_open : new.is_open ≡ old.is_open
  pub closed : old.is_open ≡ false → ok ≡ false
  pub armed : fails old.arms ≡ true → ok ≡ false
  pub untouched : fails old.arms ≡ true → new.calls ≡ old.calls
  pub passed : fails old.arms ≡ false → Notes call old.calls new.calls

-- A power cut of the disk: what was armed to stop it is over, and the file was synced, which was Ok or not. So what is
-- read from here on is what a cut of the system's own power leaves, as of a disk whose power went.
pub record LosesPower (old new : FileContents) : Type 0 where
  pub size : new.size ≡ old.size
  pub arms : new.arms ≡ after_cut old.arms
  pub faults : new.faults ≡ old.faults
  pub is_open : new.is_open ≡ old.is_open
  pub ok : Bool
  pub synced : Notes (SyncAll ok) old.calls new.calls

-- what a disk over a file holds, by what a file of this kind tells
abbrev pub file_contents : {F : Type 0} {g : Ghosts F} → FileDisk F g → FileContents
file_contents {F} {g} disk =
    record {
      size = disk.size;
      arms = disk.arms;
      faults = disk.faults;
      is_open = g.is_open disk.file;
      calls = g.calls disk.file;
      told = with_marks (g.told disk.file) (loose_since disk.size disk.written.numbers);
    }

-- A disk over a file whose bytes are in memory, opened just now. It tells its bytes, as many as it has, and none of
-- them is loose; nothing is armed on it, and no call has failed. If there is no file its bytes are 65,536 zeros.
pub record IsJustOpened (c : FileContents) : Type 0 where
  pub bytes : List ℕ
  pub sized : length bytes ≡ c.size
  pub most : c.size ≤ 131072
  pub fresh : c ≡ fresh_file_disk c.size c.is_open None (Some bytes)
  pub none : c.is_open ≡ false → bytes ≡ replicate 65536 0
