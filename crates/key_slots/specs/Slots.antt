-- What a slot holds, and what the fourteen do
use Rattle.std.specs.Prelude.{◌≡◌, ℕ, ◌<◌, ◌^◌, List, length, All, Bool, true, false, Option, Some, None}
use Rattle.std.specs.Prelude.{slice_index_or}
use Rattle.basics.specs.Blocks.{IsBlock}
use Rattle.key_slots.specs.declared.memory.Flags.{Flags}
use Rattle.key_slots.specs.declared.memory.Slot.{Slot}
use Rattle.key_slots.specs.declared.memory.Slot.TheVariants.{Empty, Filled}

-- the slot of a number
abbrev pub slot_at : List Slot → ℕ → Slot
slot_at slots number = slice_index_or slots number Empty

abbrev pub is_empty : Slot → Bool
is_empty Empty = true
is_empty (Filled key counter flags) = false

-- the flags of a slot; an empty slot has none set
abbrev pub flags_of : Slot → Flags
flags_of Empty = record { write = false; boot = false; debugger = false; usage = false; wildcard = false }
flags_of (Filled key counter flags) = flags

-- the counter of a slot; an empty slot's is 0
abbrev pub counter_of : Slot → ℕ
counter_of Empty = 0
counter_of (Filled key counter flags) = counter

-- the key of a slot, if it holds one
abbrev pub key_of : Slot → Option (List ℕ)
key_of Empty = None
key_of (Filled key counter flags) = Some key

-- which values the code's slots have: a key is 16 bytes, a counter a number of 28 bits
abbrev pub IsSlot : Slot → Type 0
IsSlot Empty = Unit {0}
IsSlot (Filled key counter flags) = IsBlock key × (counter < 2 ^ 28)

-- which lists the code's key memories have: fourteen slots
pub record IsSlots (slots : List Slot) : Type 0 where
  pub size : length slots ≡ 14
  pub slots_are : All IsSlot slots
