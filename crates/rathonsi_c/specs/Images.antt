-- What the image of a store keeps of a route and of a key slot: cells with both copies within it.
use Rattle.std.specs.Prelude.{◌≡◌, ◌≢◌, ℕ, ◌+◌, ◌<◌, ◌≤◌, ◌⊎◌, Bool, Some, None, List, length}
use Rattle.cell_store.specs.Twin.{twin_size, cell_at}
use Rattle.key_slots.specs.declared.memory.Flags.{Flags}
use Rattle.key_slots.specs.declared.memory.Slot.{Slot}
use Rattle.key_slots.specs.declared.memory.Slot.TheVariants.{Filled}
use Rattle.key_slots.specs.declared.refusals.Erc.{Erc}
use Rattle.key_slots.specs.declared.usage.Purpose.TheVariants.{Mac}
use Rattle.key_slots.specs.Slots.{IsSlots, slot_at}
use Rattle.key_slots.specs.Usage.{slot_refusals, first_applying}
use Rattle.slot_disk.specs.Cell.{HoldsSlot}
use Rattle.memory_update.specs.Messages.{HasSlots, id_of, auth_of}
use Rattle.freshness_routes.specs.declared.routes.Direction.{Direction}
use Rattle.freshness_store.specs.Bound.{HoldsBound}

-- the image keeps this bound in the cell at this place
pub record ImageBound (image : List ℕ) (place id : ℕ) (direction : Direction) (bound : ℕ) : Type 0 where
  pub room : twin_size (place + 1) ≤ length image
  pub bytes : List ℕ
  pub is : cell_at image place ≡ Some bytes
  pub holds : HoldsBound bytes id direction bound

-- or it keeps none of this Data ID and direction there
abbrev pub NoBound : List ℕ → ℕ → ℕ → Direction → Type 0
NoBound image place id direction = (bound : ℕ) → ¬ ImageBound image place id direction bound

-- the cell holds the bound of some Data ID and direction
abbrev pub IsBoundCell : List ℕ → Type 0
IsBoundCell bytes = (id : ℕ) × ((direction : Direction) × ((bound : ℕ) × HoldsBound bytes id direction bound))

-- a cell of a route before `upto`, and another than `own`, keeps a bound of this Data ID and direction
pub record IdIsHeld (image : List ℕ) (upto own id : ℕ) (direction : Direction) : Type 0 where
  pub place : ℕ
  pub least : 14 ≤ place
  pub below : place < upto
  pub other : place ≢ own
  pub bound : ℕ
  pub kept : ImageBound image place id direction bound

-- no copy of the cell at this place counts
pub record DamagedCell (image : List ℕ) (place : ℕ) : Type 0 where
  pub room : twin_size (place + 1) ≤ length image
  pub none : cell_at image place ≡ None

-- the cell at this place isn't that of this Data ID and direction: the image ends before it, or it holds something else
pub record OthersCell (image : List ℕ) (place id : ℕ) (direction : Direction) : Type 0 where
  pub undamaged : ¬ DamagedCell image place
  pub no_bound : NoBound image place id direction

-- the image keeps this slot in the cell at this place
pub record ImageSlot (image : List ℕ) (place : ℕ) (slot : Slot) : Type 0 where
  pub room : twin_size (place + 1) ≤ length image
  pub bytes : List ℕ
  pub is : cell_at image place ≡ Some bytes
  pub holds : HoldsSlot bytes slot

abbrev pub NoSlot : List ℕ → ℕ → Type 0
NoSlot image place = (slot : Slot) → ¬ ImageSlot image place slot

-- the key of that slot may be used for a MAC
pub record ImageKey (image : List ℕ) (place : ℕ) (booted : Bool) (key : List ℕ) : Type 0 where
  pub counter : ℕ
  pub flags : Flags
  pub held : ImageSlot image place (Filled key counter flags)
  pub may : first_applying (slot_refusals (Filled key counter flags) booted Mac) ≡ None

-- or this is the first refusal of such a use
pub record SlotRefuses (image : List ℕ) (place : ℕ) (booted : Bool) (refusal : Erc) : Type 0 where
  pub slot : Slot
  pub held : ImageSlot image place slot
  pub first : first_applying (slot_refusals slot booted Mac) ≡ Some refusal

-- these are fourteen slots, and the two that M1 names are as the image keeps them; an update asks for no other
pub record ReadsSlots (image m1 : List ℕ) (slots : List Slot) : Type 0 where
  pub are_slots : IsSlots slots
  pub target : HasSlots m1 → ImageSlot image (id_of m1) (slot_at slots (id_of m1))
  pub authority : HasSlots m1 → ImageSlot image (auth_of m1) (slot_at slots (auth_of m1))

-- the image keeps no slot in the cell of one of the two
abbrev pub MissesSlot : List ℕ → List ℕ → Type 0
MissesSlot image m1 = HasSlots m1 × (NoSlot image (id_of m1) ⊎ NoSlot image (auth_of m1))
