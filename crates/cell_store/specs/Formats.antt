-- What formatting a disk that tells its bytes leaves of them.
use Rattle.std.specs.Prelude.{◌≡◌, ◌⊎◌, ◌+◌, ℕ, Option, Some, List, length, replicate}
use Rattle.std.specs.List.{flat_map}
use Rattle.cut_disk.specs.State.{Told}
use Rattle.cut_disk.specs.Images.{splice, firm, EachImage}
use Rattle.cell_store.specs.declared.kinds.Version.{Version}
use Rattle.cell_store.specs.declared.kinds.Layout.{Layout}
use Rattle.cell_store.specs.Layout.{SameOutside, part, base, from_base}
use Rattle.cell_store.specs.Twin.{fresh_cell}
use Rattle.cell_store.specs.Store.{Stands, Fresh, SameBesides, fresh_cells}
use Rattle.cell_store.specs.Writing.{ReadsNow}

-- the bytes are a fresh store of these cells over those of t, stand for the cells, and none is loose
pub record FreshOn (layout : Layout) (cells : List (List ℕ)) (t : Told) (new : Option Told) : Type 0 where
  pub bytes : List ℕ
  pub told : new ≡ Some (firm bytes)
  pub fresh : Fresh layout cells t.bytes bytes
  pub stands : Stands layout bytes cells

abbrev pub Formats : Layout → List (List ℕ) → Option Told → Option Told → Type 0
Formats layout cells old new = (t : Told) → old ≡ Some t → FreshOn layout cells t new

-- x is a fresh store of these cells over the bytes b, except for its header
pub record FreshButHeader (layout : Layout) (cells : List (List ℕ)) (b x : List ℕ) : Type 0 where
  pub whole : List ℕ
  pub fresh : Fresh layout cells b whole
  pub same : SameOutside (base layout.version) 32 whole x

-- What a format that failed may leave of the bytes b: before and after the store they are as they were. Within it all
-- but the header is as it was, or the header is zero, or all but the header is a fresh store.
pub record Unformed (layout : Layout) (cells : List (List ℕ)) (b x : List ℕ) : Type 0 where
  pub besides : SameBesides layout (length cells) b x
  pub within : SameOutside (base layout.version) 32 b x
      ⊎ ((part 0 32 (from_base layout.version x) ≡ replicate 32 0) ⊎ FreshButHeader layout cells b x)

-- every image is so, if no byte was loose before
abbrev pub LeavesUnformed : Layout → List (List ℕ) → Option Told → Option Told → Type 0
LeavesUnformed layout cells old new = (b : List ℕ) → old ≡ Some (firm b) → EachImage new (Unformed layout cells b)

-- what stands after the header of a fresh store is written, and no byte is loose
abbrev pub FirmCells : Layout → List (List ℕ) → Option Told → Option Told → Type 0
FirmCells layout cells old new =
    (t : Told) → old ≡ Some t
    → new ≡ Some (firm (splice (base layout.version + 32) (fresh_cells layout.kind cells) t.bytes))

-- the copies of these cells stand after the place of the header, and all else reads as before
abbrev pub Pairs : Version → List (List ℕ) → Option Told → Option Told → Type 0
Pairs version cells old new =
    (t : Told) → old ≡ Some t → ReadsNow (splice (base version + 32) (flat_map fresh_cell cells) t.bytes) new

-- the same, and no byte is loose
abbrev pub FirmPairs : Version → List (List ℕ) → Option Told → Option Told → Type 0
FirmPairs version cells old new =
    (t : Told) → old ≡ Some t → new ≡ Some (firm (splice (base version + 32) (flat_map fresh_cell cells) t.bytes))
