-- What a cell of a unit's store means: the first fourteen are key slots, each further one a bound of freshness (own)
use Rattle.std.specs.Prelude.{◌≡◌, ℕ, ◌<◌, ◌≤◌, List, ◌++◌, Option, Some, None, codes}
use Rattle.text_lines.specs.Written.{written}
use Rattle.key_slots.specs.declared.memory.Slot.{Slot}
use Rattle.slot_disk.specs.Cell.{HoldsSlot}
use Rattle.freshness_routes.specs.declared.routes.Direction.{Direction}
use Rattle.freshness_store.specs.Bound.{HoldsBound}
use Rattle.slot_commands.specs.StoreWords.{slot_words, bound_words, cell_words}

-- the number of key slots
abbrev pub slot_count : ℕ
slot_count = 14

-- the cell holds no slot
abbrev pub HoldsNoSlot : List ℕ → Type 0
HoldsNoSlot cell = (slot : Slot) → ¬ HoldsSlot cell slot

-- the cell holds the bound of no Data ID
abbrev pub HoldsNoBoundAtAll : List ℕ → Type 0
HoldsNoBoundAtAll cell = (id : ℕ) (direction : Direction) (bound : ℕ) → ¬ HoldsBound cell id direction bound

-- the words of the line of a cell: what it holds, or that it holds nothing that its place may hold
pub data SaysCell (place : ℕ) (cell : List ℕ) : List (List ℕ) → Type 0 where
  a_slot : (slot : Slot) → place < slot_count → HoldsSlot cell slot → SaysCell place cell (slot_words place slot)
  a_bound : (id : ℕ) (direction : Direction) (bound : ℕ) → slot_count ≤ place → HoldsBound cell id direction bound
      → SaysCell place cell (bound_words place id direction bound)
  no_slot : place < slot_count → HoldsNoSlot cell → SaysCell place cell (cell_words place (codes "BadSlot"))
  no_bound : slot_count ≤ place → HoldsNoBoundAtAll cell → SaysCell place cell (cell_words place (codes "BadBound"))

-- the line of the cell at this place was added
abbrev pub AddsCell : ℕ → List ℕ → List ℕ → List ℕ → Type 0
AddsCell place cell old new = (words : List (List ℕ)) × SaysCell place cell words × (new ≡ old ++ written words)

-- what is wrong with a cell, if anything is: no copy of it counts, or it holds nothing that its place may hold
pub data FindsInCell (place : ℕ) : Option (List ℕ) → Option (List (List ℕ)) → Type 0 where
  damaged : FindsInCell place None (Some (cell_words place (codes "Damaged")))
  no_slot_there : (cell : List ℕ) → place < slot_count → HoldsNoSlot cell
      → FindsInCell place (Some cell) (Some (cell_words place (codes "BadSlot")))
  no_bound_there : (cell : List ℕ) → slot_count ≤ place → HoldsNoBoundAtAll cell
      → FindsInCell place (Some cell) (Some (cell_words place (codes "BadBound")))
  good_slot : (cell : List ℕ) (slot : Slot) → place < slot_count → HoldsSlot cell slot
      → FindsInCell place (Some cell) None
  good_bound : (cell : List ℕ) (id : ℕ) (direction : Direction) (bound : ℕ) → slot_count ≤ place
      → HoldsBound cell id direction bound → FindsInCell place (Some cell) None
