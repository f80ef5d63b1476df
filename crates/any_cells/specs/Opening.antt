-- What opening a store answers and leaves: one that stands on the disk, or a new one if the disk is blank
use Rattle.std.specs.Prelude.{◌≡◌, ◌≢◌, ℕ, ◌+◌, ◌<◌, ◌≤◌, false, Some, List, [], length}
use Rattle.cut_disk.specs.State.{DiskState, Told}
use Rattle.cut_disk.specs.Images.{firm}
use Rattle.cut_disk.specs.Calls.{Rose, Runs, Grows}
use Rattle.cell_store.specs.declared.kinds.Kind.{Kind}
use Rattle.cell_store.specs.declared.kinds.Version.{Version}
use Rattle.cell_store.specs.declared.kinds.Layout.{Layout}
use Rattle.cell_store.specs.declared.faults.StoreFault.{StoreFault}
use Rattle.cell_store.specs.declared.faults.StoreFault.TheVariants as store
use Rattle.cell_store.specs.Layout.{layout}
use Rattle.cell_store.specs.ReadOrder.{reads}
use Rattle.cell_store.specs.Store.{HasHeader, Stands, FirstDamaged, store_size}
use Rattle.cell_store.specs.Cells.{CellsState, Settled}
use Rattle.cell_store.specs.Formats.{FreshOn, LeavesUnformed}
use Rattle.any_cells.specs.Either.{format_calls}
use Rattle.any_cells.specs.Looking.{IsBlank}

-- the most calls until a store of n cells is open: a look at the header's place, a format, and all reads
abbrev pub open_calls : Kind → ℕ → ℕ
open_calls kind n = 1 + (format_calls kind n + reads kind n)

-- told bytes had a blank header: the store was made with these cells, and is settled
abbrev pub MadeWhereBlank : Version → List (List ℕ) → DiskState → CellsState → Type 0
MadeWhereBlank version cells before s =
    (t : Told) → before.told ≡ Some t → IsBlank version t.bytes
    → (s.cells ≡ cells) × FreshOn s.layout cells t s.disk.told × Settled s

-- told bytes had another: nothing was written, they stand for the store's cells, and if none was loose it is settled
abbrev pub FoundWhereNot : Version → DiskState → CellsState → Type 0
FoundWhereNot version before s =
    (t : Told) → before.told ≡ Some t → (IsBlank version t.bytes → ⊥)
    → (s.disk.told ≡ Some t) × Stands s.layout t.bytes s.cells × (t ≡ firm t.bytes → Settled s)

pub record StoreOpened (kind : Kind) (version : Version) (cells : List (List ℕ)) (before : DiskState)
    (s : CellsState) : Type 0 where
  pub laid_out : s.layout ≡ layout kind version
  pub whole : s.broken ≡ false
  pub count : length s.cells ≡ length cells
  pub room : store_size (layout kind version) (length cells) ≤ before.size
  pub runs : Runs [] (open_calls kind (length cells)) before s.disk
  pub grows : Grows before s.disk
  pub faults : s.disk.faults ≡ before.faults
  pub made : MadeWhereBlank version cells before s
  pub found : FoundWhereNot version before s

-- Why no store is open. The disk is too small, and as it was. Or no call of it failed: there was no memory, and if told
-- bytes were blank the store was made; or told bytes aren't blank and have another header, or the store's own and are
-- damaged. Or a call of the disk failed.
abbrev pub NoStoreCause : Layout → List (List ℕ) → DiskState → DiskState → StoreFault → Type 0
NoStoreCause layout cells before after store.TooSmall =
    (before.size < store_size layout (length cells)) × (after ≡ before)
NoStoreCause layout cells before after store.Memory =
    (after.faults ≡ before.faults)
    × ((t : Told) → before.told ≡ Some t → IsBlank layout.version t.bytes → FreshOn layout cells t after.told)
NoStoreCause layout cells before after store.DiskFailed = Rose before.faults after.faults
NoStoreCause layout cells before after store.NotFormatted =
    (after.faults ≡ before.faults)
    × ((t : Told) → before.told ≡ Some t
    → (IsBlank layout.version t.bytes → ⊥) × (HasHeader layout (length cells) t.bytes → ⊥))
NoStoreCause layout cells before after (store.Damaged i) =
    (after.faults ≡ before.faults)
    × ((t : Told) → before.told ≡ Some t
    → HasHeader layout (length cells) t.bytes × FirstDamaged layout t.bytes (length cells) i)

-- no store is open: there was room except for `TooSmall`, told bytes that weren't blank are as they were, and of blank
-- ones a format was begun at most
pub record NoStoreOpened (layout : Layout) (cells : List (List ℕ)) (before after : DiskState)
    (fault : StoreFault) : Type 0 where
  pub room : fault ≢ store.TooSmall → store_size layout (length cells) ≤ before.size
  pub runs : Runs [] (open_calls layout.kind (length cells)) before after
  pub cause : NoStoreCause layout cells before after fault
  pub kept : (t : Told) → before.told ≡ Some t → (IsBlank layout.version t.bytes → ⊥) → after.told ≡ before.told
  pub unformed : LeavesUnformed layout cells before.told after.told
