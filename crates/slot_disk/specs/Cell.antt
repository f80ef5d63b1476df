-- The cell of a key slot: the 32 bytes in which a store keeps it (own).
use Rattle.std.specs.Prelude.{◌≡◌, ℕ, ◌<◌, List, ◌∷◌, [], ◌++◌, map, take, replicate, slice_index_or}
use Rattle.basics.specs.Numbers.{bytes_of}
use Rattle.key_slots.specs.declared.memory.Slot.{Slot}
use Rattle.key_slots.specs.declared.memory.Slot.TheVariants.{Empty, Filled}
use Rattle.key_slots.specs.Flags.{flags_number}
use Rattle.key_slots.specs.Slots.{IsSlot, IsSlots}

-- an empty slot is 32 zero bytes; a filled one is a byte 1, its flags, its counter in four bytes, its key in 16, and
-- ten zero bytes
unfoldable pub slot_cell : Slot → List ℕ
slot_cell Empty = replicate 32 0
slot_cell (Filled key counter flags) = 1 ∷ flags_number flags ∷ bytes_of 4 counter ++ key ++ replicate 10 0

-- the cell holds this slot
pub record HoldsSlot (cell : List ℕ) (slot : Slot) : Type 0 where
  pub is_slot : IsSlot slot
  pub cell_is : cell ≡ slot_cell slot

-- the first fourteen cells are those of these slots, in order
pub record HoldSlots (cells : List (List ℕ)) (slots : List Slot) : Type 0 where
  pub are_slots : IsSlots slots
  pub cells_are : take 14 cells ≡ map slot_cell slots

-- of the first fourteen cells this one is no slot's, and each before it is one
pub record FirstBadSlot (cells : List (List ℕ)) (bad : ℕ) : Type 0 where
  pub below : bad < 14
  pub none : (slot : Slot) → ¬ HoldsSlot (slice_index_or cells bad []) slot
  pub before : (i : ℕ) → i < bad → (slot : Slot) × HoldsSlot (slice_index_or cells i []) slot
