-- What a disk means to a proof.
use Rattle.std.specs.Prelude.{ℕ, Bool, List, Option}
use Rattle.cut_disk.specs.declared.arming.Arms.{Arms}
use Rattle.cut_disk.specs.declared.Torn.{Torn}
pub use Rattle.cut_disk.specs.declared.Mark.{Mark}
use Rattle.cut_disk.specs.declared.Mark.TheVariants.{Cut as cut_mark, Stop as stop_mark, Fail as fail_mark}

-- the bytes as a read gives them, and for each byte whether it is loose: whether a power cut may change it
pub record Told : Type 0 where
  pub bytes : List ℕ
  pub loose : List Bool

-- the marks: a call that is no read, write or sync, with its argument
abbrev pub Cut : Torn → Mark
Cut torn = cut_mark torn

abbrev pub Stop : ℕ → Mark
Stop calls = stop_mark calls

abbrev pub Fail : ℕ → Mark
Fail calls = fail_mark calls

-- one call in a disk's past: the state that it left, and its mark, which a read, a write and a sync don't have
pub record Entry : Type 0 where
  pub state : Told
  pub mark : Option Mark

abbrev pub past_entry : Told → Option Mark → Entry
past_entry state mark = record { state = state; mark = mark }

-- A disk's size in bytes; its bytes and loose marks, if it tells them; which calls are to fail; how many calls
-- have failed; whether it is quiet, so that no call fails until one is armed; and its past, if it tells it.
pub record DiskState : Type 0 where
  pub size : ℕ
  pub told : Option Told
  pub arms : Arms
  pub faults : ℕ
  pub quiet : Bool
  pub past : Option (List Entry)
