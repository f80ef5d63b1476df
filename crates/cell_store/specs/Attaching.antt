-- What attaching, probing and formatting answer and leave.
use Rattle.std.specs.Prelude.{◌≡◌, ℕ, ◌+◌, ◌<◌, ◌≤◌, false, Some, List, [], length}
use Rattle.cut_disk.specs.State.{DiskState, Told}
use Rattle.cut_disk.specs.Images.{firm}
use Rattle.cut_disk.specs.Calls.{Rose, Runs, Grows}
use Rattle.cell_store.specs.declared.kinds.Version.{Version}
use Rattle.cell_store.specs.declared.kinds.Layout.{Layout}
use Rattle.cell_store.specs.declared.faults.Reread.{Reread}
use Rattle.cell_store.specs.declared.faults.Reread.TheVariants as reread
use Rattle.cell_store.specs.declared.faults.StoreFault.{StoreFault}
use Rattle.cell_store.specs.declared.faults.StoreFault.TheVariants as store
use Rattle.cell_store.specs.declared.kinds.Probe.{Probe}
use Rattle.cell_store.specs.Layout.{part, base, from_base}
use Rattle.cell_store.specs.Store.{Stands, Probes, FindsFew, store_size}
use Rattle.cell_store.specs.Cells.{CellsState, Settled}
use Rattle.cell_store.specs.Formats.{Formats, LeavesUnformed}
use Rattle.cell_store.specs.Reading.{ReadOnly, ReadFailed, Leaves, Finds}

-- a store of n cells is attached: nothing was written, and told bytes stand for its list
pub record Attached (layout : Layout) (reads n : ℕ) (disk : DiskState) (s : CellsState) : Type 0 where
  pub laid_out : s.layout ≡ layout
  pub whole : s.broken ≡ false
  pub count : length s.cells ≡ n
  pub room : store_size layout n ≤ disk.size
  pub as_before : ReadOnly reads disk s.disk
  pub grows : Grows disk s.disk
  pub stands : (t : Told) → disk.told ≡ Some t → Stands layout t.bytes s.cells
  pub settled : (b : List ℕ) → disk.told ≡ Some (firm b) → Settled s

-- there was room on the disk, and the store couldn't be read
pub record Unread (layout : Layout) (reads : ℕ) (reads_to : ℕ → ℕ) (n : ℕ) (before after : DiskState)
    (fault : Reread) : Type 0 where
  pub room : store_size layout n ≤ before.size
  pub leaves : Leaves reads reads_to before after fault
  pub finds : Finds layout n before.told fault

-- why a store of n cells isn't attached, and what that leaves of the disk
abbrev pub NotAttached : Layout → ℕ → (ℕ → ℕ) → ℕ → DiskState → DiskState → StoreFault → Type 0
NotAttached layout reads reads_to n before after store.TooSmall = (before.size < store_size layout n) × (after ≡ before)
NotAttached layout reads reads_to n before after store.Memory = (store_size layout n ≤ before.size) × (after ≡ before)
NotAttached layout reads reads_to n before after store.DiskFailed =
    Unread layout reads reads_to n before after reread.DiskFailed
NotAttached layout reads reads_to n before after store.NotFormatted =
    Unread layout reads reads_to n before after reread.NotFormatted
NotAttached layout reads reads_to n before after (store.Damaged i) =
    Unread layout reads reads_to n before after (reread.Damaged i)

-- the 32 bytes at the base were read
pub record Probed (version : Version) (old new : DiskState) (probe : Probe) : Type 0 where
  pub room : base version + 32 ≤ old.size
  pub as_before : ReadOnly 1 old new
  pub grows : Grows old new
  pub few : FindsFew probe
  pub probes : (t : Told) → old.told ≡ Some t → Probes version (part 0 32 (from_base version t.bytes)) probe

-- why they weren't
abbrev pub NotProbed : Version → DiskState → DiskState → StoreFault → Type 0
NotProbed version old new store.TooSmall = (old.size < base version + 32) × (new ≡ old)
NotProbed version old new store.DiskFailed = (base version + 32 ≤ old.size) × ReadFailed 1 old new
NotProbed version old new store.NotFormatted = ⊥
NotProbed version old new (store.Damaged i) = ⊥
NotProbed version old new store.Memory = ⊥

-- a fresh store of these cells was written in at most so many calls, and none failed
pub record Formatted (layout : Layout) (most : ℕ) (cells : List (List ℕ)) (before after : DiskState) : Type 0 where
  pub room : store_size layout (length cells) ≤ before.size
  pub runs : Runs [] most before after
  pub grows : Grows before after
  pub faults : after.faults ≡ before.faults
  pub fresh : Formats layout cells before.told after.told

-- one of so many calls failed before a fresh store of these cells was written
pub record HalfFormed (layout : Layout) (most : ℕ) (cells : List (List ℕ)) (before after : DiskState) : Type 0 where
  pub room : store_size layout (length cells) ≤ before.size
  pub runs : Runs [] most before after
  pub rose : Rose before.faults after.faults
  pub unformed : LeavesUnformed layout cells before.told after.told

-- why a store of these cells isn't formatted, in at most so many calls, and what that leaves of the disk
abbrev pub NotFormed : Layout → ℕ → List (List ℕ) → DiskState → DiskState → StoreFault → Type 0
NotFormed layout most cells before after store.TooSmall =
    (before.size < store_size layout (length cells)) × (after ≡ before)
NotFormed layout most cells before after store.DiskFailed = HalfFormed layout most cells before after
NotFormed layout most cells before after store.NotFormatted = ⊥
NotFormed layout most cells before after (store.Damaged i) = ⊥
NotFormed layout most cells before after store.Memory = ⊥
