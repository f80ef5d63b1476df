-- Stores that differ in the keys of their slots alone
use Rattle.std.specs.Prelude.{ℕ, ◌<◌, List, [], length, slice_index_or}
use Rattle.key_slots.specs.declared.memory.Flags.{Flags}
use Rattle.key_slots.specs.declared.memory.Slot.TheVariants.{Filled}
use Rattle.slot_disk.specs.Cell.{HoldsSlot}
use Rattle.any_cells.specs.declared.finding.CountingStore.{CountingStore}
use Rattle.slot_commands.specs.Stores.{HoldsStore}

-- one cell; or two of filled slots with one counter and the same flags
pub data SameButKey (cell : List ℕ) : List ℕ → Type 0 where
  same_cell : SameButKey cell cell
  other_key : (that key other : List ℕ) (counter : ℕ) (flags : Flags) → HoldsSlot cell (Filled key counter flags)
      → HoldsSlot that (Filled other counter flags) → SameButKey cell that

-- two files with stores of one kind, version and number of cells, whose cells are the same but for their keys
pub record SameButKeys (x y : List ℕ) : Type 0 where
  pub found : CountingStore
  pub cells : List (List ℕ)
  pub others : List (List ℕ)
  pub first : HoldsStore x found cells
  pub second : HoldsStore y found others
  pub each : (place : ℕ) → place < length cells
      → SameButKey (slice_index_or cells place []) (slice_index_or others place [])
