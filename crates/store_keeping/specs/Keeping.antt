-- What a store is to keep through power cuts, and when a disk fits it (own)
use Rattle.std.specs.Prelude.{◌≡◌, ◌⊎◌, ℕ, Bool, true, false, Option, None, Some, List}
use Rattle.cut_disk.specs.State.{Told}
use Rattle.cut_disk.specs.Images.{Image, firm}
use Rattle.cell_store.specs.declared.kinds.Layout.{Layout}
use Rattle.cell_store.specs.Store.{Stands}
use Rattle.cell_store.specs.Cells.{CellsState}

-- the list of cells that a store is to keep, the list with the pending change if there is one, and whether its owner is
-- up
pub record Keeping : Type 0 where
  pub cells : List (List ℕ)
  pub pending : Option (List (List ℕ))
  pub up : Bool

-- the lists that a store may have after a power cut: the one that it keeps, and the one with the pending change
abbrev pub MayKeep : Keeping → List (List ℕ) → Type 0
MayKeep keeping cells = (cells ≡ keeping.cells) ⊎ (keeping.pending ≡ Some cells)

-- bytes that stand for one of these lists
pub record StandsForKept (layout : Layout) (keeping : Keeping) (x : List ℕ) : Type 0 where
  pub cells : List (List ℕ)
  pub kept : MayKeep keeping cells
  pub stands : Stands layout x cells

-- whatever a power cut may leave stands for one of these lists, and while the owner is up no byte is loose
pub record Fits (layout : Layout) (keeping : Keeping) (told : Told) : Type 0 where
  pub images : (x : List ℕ) → Image told x → StandsForKept layout keeping x
  pub firm_up : keeping.up ≡ true → told ≡ firm told.bytes

-- ---- what is kept after something was done

-- the owner is up over this list
abbrev pub keeps_cells : List (List ℕ) → Keeping
keeps_cells cells = record { cells = cells; pending = None; up = true }

-- a put that was to lead to this list failed: the change is pending, and the owner is down
abbrev pub put_failed : List (List ℕ) → Keeping → Keeping
put_failed cells keeping = record { cells = keeping.cells; pending = Some cells; up = false }

-- a power-up failed: what is kept and what is pending is as before, and the owner is down
abbrev pub stays_down : Keeping → Keeping
stays_down keeping = record { cells = keeping.cells; pending = keeping.pending; up = false }

-- ---- a store over a disk

-- if the disk tells its bytes, they fit what is kept
abbrev pub FitsStore : Keeping → CellsState → Type 0
FitsStore keeping store = (told : Told) → store.disk.told ≡ Some told → Fits store.layout keeping told

-- the disk tells its bytes, and they fit what is kept
pub record TellsKept (keeping : Keeping) (store : CellsState) : Type 0 where
  pub now : Told
  pub told : store.disk.told ≡ Some now
  pub fits : Fits store.layout keeping now

-- the store isn't broken, and has the list of cells that is kept
pub record HoldsKept (keeping : Keeping) (store : CellsState) : Type 0 where
  pub whole : store.broken ≡ false
  pub cells : store.cells ≡ keeping.cells
