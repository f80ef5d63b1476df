-- The first cell of an image that isn't as it should be.
use Rattle.std.specs.Prelude.{ℤ, ◌≡◌, ◌≢◌, ℕ, ◌<◌, ◌≤◌, ◌⊎◌, Some, None, List, length, replicate}
use Rattle.cell_store.specs.declared.kinds.Version.TheVariants.{One}
use Rattle.cell_store.specs.Layout.{twin_layout}
use Rattle.cell_store.specs.Twin.{cell_at}
use Rattle.cell_store.specs.Store.{HasHeader}
use Rattle.key_slots.specs.declared.memory.Slot.{Slot}
use Rattle.slot_disk.specs.Cell.{HoldsSlot}
use Rattle.freshness_routes.specs.declared.routes.Direction.{Direction}
use Rattle.freshness_store.specs.Bound.{HoldsBound}
use Rattle.rathonsi_c.specs.declared.TheConstants.{OK, BAD_LENGTH, NO_STORE, DAMAGED, WRONG_CELL, DUPLICATE_ID}
use Rattle.rathonsi_c.specs.Causes.{IfCause, IsDone}
use Rattle.rathonsi_c.specs.Images.{IsBoundCell, IdIsHeld}
use Rattle.rathonsi_c.specs.Stores.{IsSize, NoSize}

-- the cell holds what its place is for: one of the first fourteen a slot, each later one a bound, or nothing yet
pub record IsInPlace (place : ℕ) (bytes : List ℕ) : Type 0 where
  pub slot : place < 14 → (slot : Slot) × HoldsSlot bytes slot
  pub bound : 14 ≤ place → (bytes ≡ replicate 32 0) ⊎ IsBoundCell bytes

-- these bytes, of the cell at this place, hold a bound of a Data ID and direction that a cell before it has, too
pub record IsDuplicate (image : List ℕ) (place : ℕ) (bytes : List ℕ) : Type 0 where
  pub id : ℕ
  pub direction : Direction
  pub bound : ℕ
  pub held : HoldsBound bytes id direction bound
  pub taken : IdIsHeld image place place id direction

-- what a cell of an image is found to be
abbrev pub CellLooks : List ℕ → ℕ → ℤ → Type 0
CellLooks image place status =
    IfCause (cell_at image place ≡ None) DAMAGED
    (IfCause ((bytes : List ℕ) → cell_at image place ≡ Some bytes → ¬ IsInPlace place bytes) WRONG_CELL
    (IfCause ((bytes : List ℕ) × ((cell_at image place ≡ Some bytes) × IsDuplicate image place bytes)) DUPLICATE_ID
    IsDone)) status

-- every cell of n is as it should be
abbrev pub NoneOdd : List ℕ → ℕ → Type 0
NoneOdd image n = (i : ℕ) → i < n → CellLooks image i OK

-- of n cells this is the first that isn't, with this status
pub record FirstOdd (image : List ℕ) (n place : ℕ) (status : ℤ) : Type 0 where
  pub below : place < n
  pub before : (i : ℕ) → i < place → CellLooks image i OK
  pub odd : status ≢ OK
  pub is : CellLooks image place status

-- the image has the header of a store of its length
abbrev pub HasHead : List ℕ → Type 0
HasHead image = (n : ℕ) × (IsSize n (length image) × HasHeader (twin_layout One) n image)

-- what `rathonsi_store_look` answers
abbrev pub LookAnswers : List ℕ → ℤ → Type 0
LookAnswers image status =
    IfCause (NoSize (length image)) BAD_LENGTH
    (IfCause (¬ HasHead image) NO_STORE
    (λ answer. (n : ℕ) × (IsSize n (length image)
    × ((NoneOdd image n × IsDone answer) ⊎ ((place : ℕ) × FirstOdd image n place answer))))) status

-- it names the first cell that isn't as it should be, and else leaves what was there
pub record TellsCell (image : List ℕ) (status : ℤ) (old new : ℕ) : Type 0 where
  pub named : (n : ℕ) → IsSize n (length image) → HasHeader (twin_layout One) n image → status ≢ OK
      → FirstOdd image n new status
  pub left : NoSize (length image) ⊎ ((¬ HasHead image) ⊎ (status ≡ OK)) → new ≡ old
