-- What the fields of a twin store mean, and what is true of them.
use Rattle.std.specs.Prelude.{◌≡◌, ℕ, ◌≤◌, Bool, false, Some, List, length}
use Rattle.cut_disk.specs.State.{DiskState, Told}
use Rattle.cell_store.specs.declared.kinds.Version.{Version}
use Rattle.cell_store.specs.declared.copies.Held.{Held}
use Rattle.cell_store.specs.Layout.{from_base, twin_layout}
use Rattle.cell_store.specs.Store.{FewCells, store_size}
use Rattle.cell_store.specs.Kept.{KeepsAll, cells_of}
use Rattle.cell_store.specs.Cells.{CellsState}

abbrev pub twin_state : Version → DiskState → List Held → Bool → CellsState
twin_state version disk held broken =
    record { layout = twin_layout version; cells = cells_of held; disk = disk; broken = broken }

-- the disk has room for the cells, and memory has room to read as many anew. The bytes of a disk that tells them keep
-- the cells, loose or not, unless the store is broken
pub record IsTwinStore (version : Version) (disk : DiskState) (held : List Held) (room : ℕ)
    (broken : Bool) : Type 0 where
  pub few : FewCells (length held)
  pub sized : store_size (twin_layout version) (length held) ≤ disk.size
  pub ready : room ≡ length held
  pub kept : broken ≡ false → (t : Told) → disk.told ≡ Some t → KeepsAll version (from_base version t.bytes) held
