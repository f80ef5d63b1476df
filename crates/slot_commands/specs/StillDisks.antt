-- Bytes as a disk that is only read, and the store that was found there
use Rattle.std.specs.Prelude.{◌≡◌, ℕ, ◌≤◌, List, length, Some}
use Rattle.cut_disk.specs.State.{DiskState}
use Rattle.cut_disk.specs.Images.{firm}
use Rattle.cut_disk.specs.Calls.{IsQuiet}
use Rattle.cell_store.specs.Store.{FewCells, store_size}
use Rattle.any_cells.specs.declared.finding.CountingStore.{CountingStore}
use Rattle.any_cells.specs.Counting.{StoreThatCounts}
use Rattle.key_commands.specs.Opening.{layout_of}
use Rattle.slot_commands.specs.Cells.{slot_count}

-- the disk tells these bytes, none of them loose, and no call of it fails until one is armed
pub record IsStill (x : List ℕ) (disk : DiskState) : Type 0 where
  pub size : disk.size ≡ length x
  pub told : disk.told ≡ Some (firm x)
  pub quiet : IsQuiet disk

-- this store counts in the bytes, it has the fourteen slots, and the bytes have room for it; the disk has the bytes
pub record HasFound (x : List ℕ) (found : CountingStore) (disk : DiskState) : Type 0 where
  pub counts : StoreThatCounts x (Some found)
  pub wide : slot_count ≤ found.cells
  pub few : FewCells found.cells
  pub room : store_size (layout_of found) found.cells ≤ length x
  pub still : IsStill x disk
