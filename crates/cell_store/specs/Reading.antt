-- What reading a store leaves and finds.
use Rattle.std.specs.Prelude.{◌≡◌, ℕ, min, Option, Some, None, List, [], ◌∷◌, ◌++◌, All, IsTrue}
use Rattle.cut_disk.specs.declared.Torn.{Torn}
use Rattle.cut_disk.specs.State.{DiskState, Told, Entry, Cut, past_entry}
use Rattle.cut_disk.specs.Arming.{is_clear}
use Rattle.cut_disk.specs.Images.{CutsTo}
use Rattle.cut_disk.specs.Calls.{Rose, Runs}
use Rattle.cell_store.specs.declared.copies.Held.{Held}
use Rattle.cell_store.specs.declared.kinds.Version.{Version}
use Rattle.cell_store.specs.declared.kinds.Layout.{Layout}
use Rattle.cell_store.specs.declared.faults.Reread.{Reread}
use Rattle.cell_store.specs.declared.faults.Reread.TheVariants as reread
use Rattle.cell_store.specs.Layout.{from_base}
use Rattle.cell_store.specs.Twin.{cell_at}
use Rattle.cell_store.specs.Copies.{Keeps}
use Rattle.cell_store.specs.Store.{HasHeader}
use Rattle.cell_store.specs.Cells.{RereadFinds}

-- no stop has begun and none is armed
abbrev pub NoStop : DiskState → Type 0
NoStop s = IsTrue (is_clear s.arms.stop)

-- calls all along which the bytes stayed: each entry that they added to a past has the bytes and loose marks from
-- before
abbrev pub StaysTold : DiskState → DiskState → Type 0
StaysTold old new = (t : Told) (earlier added : List Entry) → old.told ≡ Some t
    → old.past ≡ Some earlier → new.past ≡ Some (earlier ++ added)
    → All (λ entry. entry.state ≡ t) added

-- the first of these entries is a cut's, and each after it has what the cut left, and so does the disk now
pub record EntriesOfCut (torn : Torn) (told : Option Told) (added : List Entry) : Type 0 where
  pub left : Told
  pub behind : List Entry
  pub whole : added ≡ past_entry left (Some (Cut torn)) ∷ behind
  pub same : All (λ entry. entry.state ≡ left) behind
  pub now : told ≡ Some left

-- a cut, and then calls all along which the bytes stayed as it left them: nothing comes after a cut but looks
abbrev pub CutStays : Torn → DiskState → DiskState → Type 0
CutStays torn old new = (earlier added : List Entry)
    → old.past ≡ Some earlier → new.past ≡ Some (earlier ++ added) → EntriesOfCut torn new.told added

-- what a power cut of a disk and the reads behind it leave, at most so many calls in all
pub record CutAndRead (torn : Torn) (most : ℕ) (old new : DiskState) : Type 0 where
  -- the cut is a call of this mark, and no other has one
  pub runs : Runs (Cut torn ∷ []) most old new
  -- the bytes are one image of those before, and none is loose
  pub image : CutsTo old.told new.told
  -- nothing is written after the cut
  pub stays : CutStays torn old new
  -- no stop has begun and none is armed
  pub stops : NoStop new

-- a disk is as before, except for at most this many reads, and no stop has come
pub record ReadOnly (most : ℕ) (old new : DiskState) : Type 0 where
  pub runs : Runs [] most old new
  pub told : new.told ≡ old.told
  pub faults : new.faults ≡ old.faults
  pub stops : NoStop old → NoStop new
  pub stays : StaysTold old new

-- one of so many reads failed, so that the count of faults rose; no byte has changed, and no stop has come
pub record ReadFailed (most : ℕ) (old new : DiskState) : Type 0 where
  pub runs : Runs [] most old new
  pub told : new.told ≡ old.told
  pub rose : Rose old.faults new.faults
  pub stops : NoStop old → NoStop new
  pub stays : StaysTold old new

-- What is left if a store isn't read, by the cause: of all its reads a failing disk allows any number, another header
-- the first, and what is damaged those up to it.
abbrev pub Leaves : ℕ → (ℕ → ℕ) → DiskState → DiskState → Reread → Type 0
Leaves all up_to old new reread.DiskFailed = ReadFailed all old new
Leaves all up_to old new reread.NotFormatted = ReadOnly (min all 1) old new
Leaves all up_to old new (reread.Damaged i) = ReadOnly (min all (up_to i)) old new

-- what told bytes have, if a store isn't read
abbrev pub Finds : Layout → ℕ → Option Told → Reread → Type 0
Finds layout n told fault = (t : Told) → told ≡ Some t → RereadFinds layout n t.bytes fault

-- what told bytes have as one cell of a twin store
abbrev pub ToldKeeps : Version → Option Told → ℕ → Held → Type 0
ToldKeeps version told i held = (t : Told) → told ≡ Some t → Keeps (from_base version t.bytes) i held

-- a cell isn't read: the disk failed, or told bytes have no copy that counts
abbrev pub CellFault : Version → ℕ → DiskState → DiskState → Reread → Type 0
CellFault version i old new reread.DiskFailed = ReadFailed 1 old new
CellFault version i old new reread.NotFormatted = ⊥
CellFault version i old new (reread.Damaged j) =
    (j ≡ i) × ReadOnly 1 old new × ((t : Told) → old.told ≡ Some t → cell_at (from_base version t.bytes) i ≡ None)

-- the header isn't read: the disk failed, or told bytes have another
abbrev pub HeaderFault : Layout → ℕ → DiskState → DiskState → Reread → Type 0
HeaderFault layout n old new reread.DiskFailed = ReadFailed 1 old new
HeaderFault layout n old new reread.NotFormatted =
    ReadOnly 1 old new × ((t : Told) → old.told ≡ Some t → HasHeader layout n t.bytes → ⊥)
HeaderFault layout n old new (reread.Damaged i) = ⊥
