-- What a store of cells means, and what its calls leave.
use Rattle.std.specs.Prelude.{◌≡◌, ℕ, ◌+◌, Bool, true, false, Option, Some, List, [], ◌∷◌, ◌⊎◌, set, length}
use Rattle.cut_disk.specs.declared.Torn.{Torn}
use Rattle.cut_disk.specs.State.{DiskState, Told, Cut}
use Rattle.cut_disk.specs.Images.{firm, Image, EachImage}
use Rattle.cut_disk.specs.Calls.{Rose, Runs, Grows}
use Rattle.cell_store.specs.declared.kinds.Layout.{Layout}
use Rattle.cell_store.specs.declared.faults.Reread.{Reread}
use Rattle.cell_store.specs.declared.faults.Reread.TheVariants as reread
use Rattle.cell_store.specs.ReadOrder.{reads, reads_to}
use Rattle.cell_store.specs.Store.{HasHeader, Stands, FirstDamaged, Put, SameBesides}

-- the kind and version of a store, its list of cells of 32 bytes, the disk below, and whether the store is broken
pub record CellsState : Type 0 where
  pub layout : Layout
  pub cells : List (List ℕ)
  pub disk : DiskState
  pub broken : Bool

-- the store isn't broken, and its disk tells bytes that stand for the list, none of them loose
pub record Settled (s : CellsState) : Type 0 where
  pub whole : s.broken ≡ false
  pub bytes : List ℕ
  pub told : s.disk.told ≡ Some (firm bytes)
  pub stands : Stands s.layout bytes s.cells

-- the disk tells bytes that stand for the list, loose or not
pub record TellsCells (s : CellsState) : Type 0 where
  pub now : Told
  pub told : s.disk.told ≡ Some now
  pub stands : Stands s.layout now.bytes s.cells

-- the disk told bytes before a put and tells bytes after it, none of them loose: those of a finished put of c at cell i
pub record PutDone (i : ℕ) (c : List ℕ) (old new : CellsState) : Type 0 where
  pub before : Told
  pub after : List ℕ
  pub told_before : old.disk.told ≡ Some before
  pub told_after : new.disk.told ≡ Some (firm after)
  pub put : Put old.layout before.bytes i c after

-- if no byte was loose before, every image has the bytes before and after the store as they were
abbrev pub LeavesBesides : CellsState → Option Told → Type 0
LeavesBesides s new =
    (b : List ℕ) → s.disk.told ≡ Some (firm b) → EachImage new (SameBesides s.layout (length s.cells) b)

-- bytes that stand for the list before a put, or for the list after it
abbrev pub StandsForEither : CellsState → ℕ → List ℕ → List ℕ → Type 0
StandsForEither s i c x = Stands s.layout x s.cells ⊎ Stands s.layout x (set s.cells i c)

-- what a put of c at cell i leaves if it answers Ok
pub record Puts (i : ℕ) (c : List ℕ) (old new : CellsState) : Type 0 where
  pub layout : new.layout ≡ old.layout
  pub runs : Runs [] 6 old.disk new.disk
  pub besides : LeavesBesides old new.disk.told
  pub faults : new.disk.faults ≡ old.disk.faults
  pub cells : new.cells ≡ set old.cells i c
  pub whole : new.broken ≡ false
  pub settled : TellsCells old → Settled new
  pub done : TellsCells old → PutDone i c old new

-- what it leaves if it fails
pub record FailsPut (i : ℕ) (c : List ℕ) (old new : CellsState) : Type 0 where
  pub layout : new.layout ≡ old.layout
  pub runs : Runs [] 6 old.disk new.disk
  pub besides : LeavesBesides old new.disk.told
  pub failed : Rose old.disk.faults new.disk.faults
  pub kept : new.cells ≡ old.cells
  pub broken : new.broken ≡ true
  pub images : Settled old → EachImage new.disk.told (StandsForEither old i c)

-- what is wrong with bytes read anew that are no store of this layout and number of cells
abbrev pub RereadFinds : Layout → ℕ → List ℕ → Reread → Type 0
RereadFinds layout n x reread.DiskFailed = Unit {0}
RereadFinds layout n x reread.NotFormatted = HasHeader layout n x → ⊥
RereadFinds layout n x (reread.Damaged i) = HasHeader layout n x × FirstDamaged layout x n i

-- no call failed, and bytes that are told are no store of the old layout and number of cells
pub record Misread (old new : CellsState) (fault : Reread) : Type 0 where
  pub faults : new.disk.faults ≡ old.disk.faults
  pub finds : (t : Told) → new.disk.told ≡ Some t → RereadFinds old.layout (length old.cells) t.bytes fault

-- why a store isn't read anew: the disk failed and its count rose, or no call failed and told bytes aren't a store
abbrev pub RereadCause : CellsState → CellsState → Reread → Type 0
RereadCause old new reread.DiskFailed = Rose old.disk.faults new.disk.faults
RereadCause old new reread.NotFormatted = Misread old new reread.NotFormatted
RereadCause old new (reread.Damaged i) = Misread old new (reread.Damaged i)

-- how many calls came at most before a store wasn't read anew, the cut among them
abbrev pub calls_to_reread : CellsState → Reread → ℕ
calls_to_reread s reread.DiskFailed = 1 + reads s.layout.kind (length s.cells)
calls_to_reread s reread.NotFormatted = 2
calls_to_reread s (reread.Damaged i) = 1 + reads_to s.layout.kind (length s.cells) i

-- told bytes stand for the list
abbrev pub StandsNow : CellsState → Type 0
StandsNow s = (t : Told) → s.disk.told ≡ Some t → Stands s.layout t.bytes s.cells

-- x stands for a list of n cells
pub record StandsForSome (layout : Layout) (n : ℕ) (x : List ℕ) : Type 0 where
  pub cells : List (List ℕ)
  pub count : length cells ≡ n
  pub stands : Stands layout x cells

-- the disk tells its bytes, and each image of them stands for a list of the store's number of cells
pub record EachImageStands (s : CellsState) : Type 0 where
  pub told : Told
  pub is : s.disk.told ≡ Some told
  pub each : (x : List ℕ) → Image told x → StandsForSome s.layout (length s.cells) x

-- what a power cut leaves of a store that is read anew
pub record Rereads (old new : CellsState) : Type 0 where
  -- a told past has grown
  pub grows : Grows old.disk new.disk
  -- no call of the disk failed
  pub faults : new.disk.faults ≡ old.disk.faults
  pub whole : new.broken ≡ false
  pub stands : StandsNow new
  -- so it is settled if the disk told its bytes
  pub settled : (t : Told) → old.disk.told ≡ Some t → Settled new

-- what it leaves of one that isn't, for this fault
pub record NotReread (torn : Torn) (old new : CellsState) (fault : Reread) : Type 0 where
  pub kept : new.cells ≡ old.cells
  pub broken : new.broken ≡ true
  pub cause : RereadCause old new fault
  -- no read came behind the one that found the fault
  pub first : Runs (Cut torn ∷ []) (calls_to_reread old fault) old.disk new.disk
  -- if each image stood for a list of this many cells, only the disk fails
  pub never : EachImageStands old → fault ≡ reread.DiskFailed
