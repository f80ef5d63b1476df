-- What the fields of a log store mean, and what is true of them.
use Rattle.std.specs.Prelude.{◌≡◌, ℕ, ◌+◌, ◌*◌, ◌≤◌, Bool, false, Some, List, length}
use Rattle.cut_disk.specs.State.{DiskState, Told}
use Rattle.cell_store.specs.declared.kinds.Version.{Version}
use Rattle.cell_store.specs.declared.banks.Bank.{Bank}
use Rattle.cell_store.specs.Layout.{log_layout}
use Rattle.cell_store.specs.Store.{FewCells, store_size}
use Rattle.cell_store.specs.LogKept.{KeepsLog}
use Rattle.cell_store.specs.Cells.{CellsState}

abbrev pub log_state : Version → DiskState → List (List ℕ) → Bool → CellsState
log_state version disk cells broken =
    record { layout = log_layout version; cells = cells; disk = disk; broken = broken }

-- The disk has room for the store. Memory has room to read as many cells anew, and for a bank without its gate. The
-- bytes of a disk that tells them keep the cells, loose or not, unless the store is broken.
pub record IsLogStore (version : Version) (disk : DiskState) (cells : List (List ℕ)) (reread space : ℕ) (bank : Bank)
    (broken : Bool) : Type 0 where
  pub few : FewCells (length cells)
  pub sized : store_size (log_layout version) (length cells) ≤ disk.size
  pub ready : reread ≡ length cells
  pub spacious : space ≡ 2241 + 32 * length cells
  pub kept : broken ≡ false → (t : Told) → disk.told ≡ Some t → KeepsLog version (length cells) t.bytes cells bank
