-- The engine of the store that counts on a disk, or why there is none
use Rattle.std.specs.Prelude.{◌≡◌, ◌⊎◌, ◌<◌, ◌≤◌, ◌+◌, ℕ, false, List, [], ◌∷◌, ◌++◌, length, Some, None, codes}
use Rattle.std.specs.Fmt.{decimal}
use Rattle.any_cells.specs.FaultTexts.{store_fault_text}
use Rattle.cut_disk.specs.State.{DiskState, Told}
use Rattle.cut_disk.specs.Images.{firm}
use Rattle.cut_disk.specs.Calls.{Rose, Runs}
use Rattle.cell_store.specs.declared.kinds.Layout.{Layout}
use Rattle.cell_store.specs.declared.faults.StoreFault.{StoreFault}
use Rattle.cell_store.specs.declared.faults.StoreFault.TheVariants as store
use Rattle.cell_store.specs.declared.kinds.Kind.TheVariants.{Log}
use Rattle.cell_store.specs.Layout.{layout}
use Rattle.cell_store.specs.ReadOrder.{reads}
use Rattle.cell_store.specs.Store.{FewCells, FirstDamaged, Stands, store_size}
use Rattle.cell_store.specs.Cells.{Settled}
use Rattle.slot_disk.specs.Cell.{FirstBadSlot}
use Rattle.program_edge.specs.Rows.{Row, row_of, memory_row}
use Rattle.any_cells.specs.declared.finding.CountingStore.{CountingStore}
use Rattle.any_cells.specs.Counting.{StoreThatCounts}
use Rattle.key_commands.specs.Loader.{LoaderState, HoldsAll}

-- the text of a cause, after `store: ` and with a line feed
abbrev pub store_text : List ℕ → List ℕ
store_text cause = codes "store: " ++ (cause ++ 10 ∷ [])

-- the row of a store's fault: 9 and the fault's text
abbrev pub fault_row : StoreFault → Row
fault_row fault = row_of 9 (store_text (store_fault_text fault))

-- the row of a store that is refused is its fault's; it is 7 if there was no memory for it, or for a text with a number
abbrev pub TellsStoreFault : StoreFault → Row → Type 0
TellsStoreFault store.DiskFailed row = row ≡ fault_row store.DiskFailed
TellsStoreFault store.NotFormatted row = row ≡ fault_row store.NotFormatted
TellsStoreFault (store.Damaged place) row = (row ≡ fault_row (store.Damaged place)) ⊎ (row ≡ memory_row)
TellsStoreFault store.TooSmall row = row ≡ fault_row store.TooSmall
TellsStoreFault store.Memory row = row ≡ memory_row

abbrev pub few_cells_row : Row
few_cells_row = row_of 9 (store_text (codes "too few cells"))

abbrev pub bad_slot_row : ℕ → Row
bad_slot_row slot = row_of 9 (store_text (codes "BadSlot " ++ decimal slot))

-- the most reads in which a store is attached: a log store of 1,024 cells takes them
abbrev pub most_to_attach : ℕ
most_to_attach = reads Log 1024

-- the most reads in which an engine on a disk is opened or refused, with those of the two headers that tell which store
-- counts
abbrev pub most_to_open : ℕ
most_to_open = 2 + most_to_attach

-- a disk was read at most, in at most so many calls: bytes and loose marks are as before, and no mark came to its past
pub record OnlyRead (calls : ℕ) (before after : DiskState) : Type 0 where
  pub runs : Runs [] calls before after
  pub told : after.told ≡ before.told

-- told bytes have this store as the one that counts
abbrev pub HasCounting : DiskState → CountingStore → Type 0
HasCounting disk found = (t : Told) → disk.told ≡ Some t → StoreThatCounts t.bytes (Some found)

abbrev pub layout_of : CountingStore → Layout
layout_of found = layout found.kind found.version

-- told bytes have this as their first damaged place, as the store that counts
abbrev pub HasDamaged : DiskState → CountingStore → ℕ → Type 0
HasDamaged disk found place =
    (t : Told) → disk.told ≡ Some t → FirstDamaged (layout_of found) t.bytes found.cells place

-- told bytes stand for these cells, as the store that counts
abbrev pub HasCells : DiskState → CountingStore → List (List ℕ) → Type 0
HasCells disk found cells = (t : Told) → disk.told ≡ Some t → Stands (layout_of found) t.bytes cells

-- why a disk that can be read gives no engine, by its size and its told bytes: the first cause that applies, and its
-- row
pub data NoEngine (disk : DiskState) : Row → Type 0 where
  no_header : disk.size < 32 → NoEngine disk (fault_row store.TooSmall)
  none_counts : 32 ≤ disk.size → ((t : Told) → disk.told ≡ Some t → StoreThatCounts t.bytes None)
      → NoEngine disk (fault_row store.NotFormatted)
  too_few : (found : CountingStore) → 32 ≤ disk.size → HasCounting disk found → found.cells < 14
      → NoEngine disk few_cells_row
  no_room : (found : CountingStore) → FewCells found.cells → HasCounting disk found → 14 ≤ found.cells
      → disk.size < store_size (layout_of found) found.cells → NoEngine disk (fault_row store.TooSmall)
  damaged : (found : CountingStore) (place : ℕ) → HasCounting disk found → 14 ≤ found.cells
      → store_size (layout_of found) found.cells ≤ disk.size → HasDamaged disk found place
      → NoEngine disk (fault_row (store.Damaged place))
  bad_slot : (found : CountingStore) (cells : List (List ℕ)) (slot : ℕ) → HasCounting disk found → 14 ≤ found.cells
      → store_size (layout_of found) found.cells ≤ disk.size
      → length cells ≡ found.cells → HasCells disk found cells → FirstBadSlot cells slot
      → NoEngine disk (bad_slot_row slot)

-- Why bytes that a disk tells give no engine: a cause that applies, whether or not it is the first. They have no room
-- for a header, or no store counts in them. Or the one that counts has too few cells, no room, a damaged place or a
-- cell that isn't a slot's.
pub data NoEngineIn (x : List ℕ) : Type 0 where
  headless : length x < 32 → NoEngineIn x
  uncounted : StoreThatCounts x None → NoEngineIn x
  too_few_in : (found : CountingStore) → StoreThatCounts x (Some found) → found.cells < 14 → NoEngineIn x
  no_room_in : (found : CountingStore) → StoreThatCounts x (Some found)
      → length x < store_size (layout_of found) found.cells → NoEngineIn x
  damaged_in : (found : CountingStore) (place : ℕ) → StoreThatCounts x (Some found)
      → FirstDamaged (layout_of found) x found.cells place → NoEngineIn x
  bad_slot_in : (found : CountingStore) (cells : List (List ℕ)) (slot : ℕ) → StoreThatCounts x (Some found)
      → Stands (layout_of found) x cells → FirstBadSlot cells slot → NoEngineIn x

-- why a disk gave no engine, with the row of 9: the first cause that applies, if no read of it failed, or one failed
pub data LacksEngine (before after : DiskState) : Row → Type 0 where
  has_none : (row : Row) → NoEngine before row → after.faults ≡ before.faults → LacksEngine before after row
  disk_failed : Rose before.faults after.faults → LacksEngine before after (fault_row store.DiskFailed)

-- the row that comes where a disk gives no engine: that of its cause, or want of memory, where the disk didn't fail;
-- and it was read at most, in at most so many calls
pub record GivesNoEngine (calls : ℕ) (before after : DiskState) (row : Row) : Type 0 where
  pub cause : LacksEngine before after row ⊎ ((row ≡ memory_row) × (after.faults ≡ before.faults))
  pub read : OnlyRead calls before after

-- the engine with this identifier is open over the store that counts, in which its slots are, after at most so many
-- reads
pub record OpensLoader (calls : ℕ) (before : DiskState) (uid : List ℕ) (loader : LoaderState) : Type 0 where
  pub found : CountingStore
  pub counts : HasCounting before found
  pub wide : 14 ≤ length loader.store.cells
  pub number : length loader.store.cells ≡ found.cells
  pub laid_out : loader.store.layout ≡ layout_of found
  pub uid_is : loader.uid ≡ uid
  pub held : HoldsAll loader
  pub up : loader.down ≡ false
  pub read : OnlyRead calls before loader.store.disk
  pub calm : loader.store.disk.faults ≡ before.faults
  pub stands : HasCells before found loader.store.cells
  pub settled : (b : List ℕ) → before.told ≡ Some (firm b) → Settled loader.store

-- the first of the fourteen cells that is no slot's, with its row, or out of memory for its text
abbrev pub HasNoSlot : List (List ℕ) → Row → Type 0
HasNoSlot cells row = ((slot : ℕ) × FirstBadSlot cells slot × (row ≡ bad_slot_row slot)) ⊎ (row ≡ memory_row)
