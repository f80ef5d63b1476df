-- Which of two stores on one disk counts, and what moving a store to version 2 leaves.
use Rattle.std.specs.Prelude.{◌≡◌, ◌⊎◌, ℕ, ◌+◌, ◌*◌, Option, Some, List, length}
use Rattle.cut_disk.specs.State.{DiskState, Told}
use Rattle.cut_disk.specs.Images.{firm, EachImage}
use Rattle.cut_disk.specs.Calls.{Rose}
use Rattle.cell_store.specs.declared.kinds.Kind.{Kind}
use Rattle.cell_store.specs.declared.kinds.Kind.TheVariants.{Twin, Log}
use Rattle.cell_store.specs.declared.kinds.Version.{Version}
use Rattle.cell_store.specs.declared.kinds.Version.TheVariants.{One, Two}
use Rattle.cell_store.specs.declared.kinds.Layout.{Layout}
use Rattle.cell_store.specs.declared.faults.Reread.{Reread}
use Rattle.cell_store.specs.declared.faults.Reread.TheVariants as reread
use Rattle.cell_store.specs.Layout.{SameOutside, base, layout}
use Rattle.cell_store.specs.ReadOrder.{reads, reads_to}
use Rattle.cell_store.specs.Store.{HasHeader, Stands, FirstDamaged, SameBesides}
use Rattle.cell_store.specs.Formats.{FreshOn, FreshButHeader}
use Rattle.cell_store.specs.Reading.{ReadOnly}

-- Of the stores of this kind and n cells in the bytes x the store of this version counts: that of version 2 if its
-- header stands, else that of version 1.
abbrev pub CountsAs : Kind → ℕ → List ℕ → Version → Type 0
CountsAs kind n x Two = HasHeader (layout kind Two) n x
CountsAs kind n x One = HasHeader (layout kind Two) n x → ⊥

-- the bytes x stand for these cells in the version that counts
pub record StandsAsCounted (kind : Kind) (cells : List (List ℕ)) (x : List ℕ) : Type 0 where
  pub version : Version
  pub counting : CountsAs kind (length cells) x version
  pub stands : Stands (layout kind version) x cells

-- how many bytes of a store of n cells stand after its header
abbrev pub behind_header : Kind → ℕ → ℕ
behind_header Twin n = 68 * n
behind_header Log n = 4484 + 64 * n

-- how many calls write and sync them
abbrev pub calls_behind : Kind → ℕ → ℕ
calls_behind Twin n = n + 1
calls_behind Log n = 143 + 2 * n

-- What a fresh store whose header is written last may leave of the bytes b if that fails: before and after the store
-- they are as they were, and so is the header, or all but the header is a fresh store.
pub record HeaderLast (laid : Layout) (cells : List (List ℕ)) (b x : List ℕ) : Type 0 where
  pub besides : SameBesides laid (length cells) b x
  pub within : SameOutside (base laid.version + 32) (behind_header laid.kind (length cells)) b x
      ⊎ FreshButHeader laid cells b x

-- every image is so, if no byte was loose before
abbrev pub LeavesHeaderLast : Layout → List (List ℕ) → Option Told → Option Told → Type 0
LeavesHeaderLast laid cells old new = (b : List ℕ) → old ≡ Some (firm b) → EachImage new (HeaderLast laid cells b)

-- how many calls a move makes at most: a header, a store of version 1, and a store of version 2
abbrev pub move_calls : Kind → ℕ → ℕ
move_calls kind n = 1 + reads kind n + (calls_behind kind n + 2)

-- what a disk tells after a move of a store that counted as this version: what it told before, or a fresh store of
-- version 2
abbrev pub AfterMove : Kind → List (List ℕ) → Told → Option Told → Version → Type 0
AfterMove kind cells t new Two = new ≡ Some t
AfterMove kind cells t new One = FreshOn (layout kind Two) cells t new

-- the bytes stood for these cells in the version that counts, and the store is moved
pub record Moved (kind : Kind) (cells : List (List ℕ)) (t : Told) (new : Option Told) : Type 0 where
  pub before : StandsAsCounted kind cells t.bytes
  pub after : AfterMove kind cells t new before.version

abbrev pub Moves : Kind → List (List ℕ) → Option Told → Option Told → Type 0
Moves kind cells old new = (t : Told) → old ≡ Some t → Moved kind cells t new

-- the bytes stood for a list of n cells in the version that counts, and none was loose: then every image stands for
-- that list in the version that counts for it
abbrev pub KeepsCounted : Kind → ℕ → Option Told → Option Told → Type 0
KeepsCounted kind n old new =
    (b : List ℕ) (cells : List (List ℕ)) → old ≡ Some (firm b) → length cells ≡ n → StandsAsCounted kind cells b
    → EachImage new (StandsAsCounted kind cells)

-- if the bytes stood so, only the disk can have failed
abbrev pub OnlyDisk : Kind → ℕ → Option Told → Reread → Type 0
OnlyDisk kind n old fault =
    (b : List ℕ) (cells : List (List ℕ)) → old ≡ Some (firm b) → length cells ≡ n → StandsAsCounted kind cells b
    → fault ≡ reread.DiskFailed

-- if no byte was loose, every image has all bytes but those of a store of version 2 as they were
abbrev pub LeavesBelow : Kind → ℕ → Option Told → Option Told → Type 0
LeavesBelow kind n old new = (b : List ℕ) → old ≡ Some (firm b) → EachImage new (SameBesides (layout kind Two) n b)

-- the version that counts is damaged, and this number says where first
pub record DamagedAsCounted (kind : Kind) (n i : ℕ) (x : List ℕ) : Type 0 where
  pub version : Version
  pub counting : CountsAs kind n x version
  pub head : HasHeader (layout kind version) n x
  pub damaged : FirstDamaged (layout kind version) x n i

-- Why a store of n cells isn't moved: the disk failed, or told bytes have no header of it in either version, or the
-- version that counts is damaged.
abbrev pub Unmoved : Kind → ℕ → DiskState → DiskState → Reread → Type 0
Unmoved kind n old new reread.DiskFailed = Rose old.faults new.faults
Unmoved kind n old new reread.NotFormatted =
    ReadOnly 2 old new
    × ((t : Told) → old.told ≡ Some t
    → (HasHeader (layout kind One) n t.bytes → ⊥) × (HasHeader (layout kind Two) n t.bytes → ⊥))
Unmoved kind n old new (reread.Damaged i) =
    ReadOnly (1 + reads_to kind n i) old new × ((t : Told) → old.told ≡ Some t → DamagedAsCounted kind n i t.bytes)
