-- A plan that would take back what a store has counted: an old copy of a plan.
use Rattle.std.specs.Prelude.{◌≡◌, ◌≢◌, ℕ, ◌+◌, ◌<◌, ◌≤◌, ◌⊎◌, Option, Some, List, length}
use Rattle.cell_store.specs.declared.kinds.Version.TheVariants.{One}
use Rattle.cell_store.specs.Layout.{twin_layout}
use Rattle.cell_store.specs.Twin.{twin_size, cell_at}
use Rattle.cell_store.specs.Store.{HasHeader, FewCells}
use Rattle.key_slots.specs.declared.memory.Flags.{Flags}
use Rattle.key_slots.specs.declared.memory.Slot.TheVariants.{Filled}
use Rattle.slot_disk.specs.Cell.{HoldsSlot}
use Rattle.freshness_routes.specs.declared.routes.Direction.{Direction}
use Rattle.freshness_store.specs.Bound.{HoldsBound}
use Rattle.store_plan.specs.declared.planning.Plan.{Plan}
use Rattle.store_plan.specs.Plans.{applied}

-- the header of the image counts this cell, and the image has it
pub record IsCounted (image : List ℕ) (place : ℕ) : Type 0 where
  pub count : ℕ
  pub few : FewCells count
  pub head : HasHeader (twin_layout One) count image
  pub below : place < count
  pub room : twin_size (place + 1) ≤ length image

-- a bound falls: what is after it holds no bound of the same Data ID and direction that is as high
pub record BoundFalls (before : List ℕ) (after : Option (List ℕ)) : Type 0 where
  pub id : ℕ
  pub direction : Direction
  pub bound : ℕ
  pub held : HoldsBound before id direction bound
  pub lower : (bytes : List ℕ) (next : ℕ) → after ≡ Some bytes → HoldsBound bytes id direction next → next < bound

-- the cell holds a key, with this counter
pub record HoldsKey (cell : List ℕ) (counter : ℕ) : Type 0 where
  pub key : List ℕ
  pub flags : Flags
  pub held : HoldsSlot cell (Filled key counter flags)

-- a key goes: what is after it is another slot, and holds no key with a higher counter
pub record KeyFalls (before : List ℕ) (after : Option (List ℕ)) : Type 0 where
  pub counter : ℕ
  pub held : HoldsKey before counter
  pub changed : after ≢ Some before
  pub lower : (bytes : List ℕ) (next : ℕ) → after ≡ Some bytes → HoldsKey bytes next → next ≤ counter

-- by this plan what the cell has counted falls
pub record CellFalls (image : List ℕ) (plan : Plan) (place : ℕ) : Type 0 where
  pub before : List ℕ
  pub is : cell_at image place ≡ Some before
  pub falls : BoundFalls before (cell_at (applied plan image) place)
      ⊎ KeyFalls before (cell_at (applied plan image) place)

-- the plan takes back what a cell of the store has counted
pub record IsStale (image : List ℕ) (plan : Plan) : Type 0 where
  pub place : ℕ
  pub counted : IsCounted image place
  pub falls : CellFalls image plan place
