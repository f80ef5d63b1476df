-- What the steps of a look at the bytes answer
use Rattle.std.specs.Prelude.{◌≡◌, ℕ, ◌<◌, ◌≤◌, List, Some, None}
use Rattle.cell_store.specs.Twin.{cell_at}
use Rattle.key_slots.specs.declared.memory.Slot.{Slot}
use Rattle.slot_disk.specs.Cell.{HoldsSlot}
use Rattle.freshness_routes.specs.declared.routes.Route.{Route}
use Rattle.store_growing.specs.declared.faults.GrowFault.{GrowFault}
use Rattle.store_growing.specs.declared.faults.GrowFault.TheVariants.{Damaged, BadSlot}
use Rattle.store_growing.specs.RouteCells.{route_cell, RouteAt, HoldsRoute, HaveCells, IsFree, FreeFrom}
use Rattle.store_growing.specs.RouteCells.{SlotDamaged, NoSlotInCell}

-- why this cell is no slot's
abbrev pub RefusesSlot : List ℕ → ℕ → GrowFault → Type 0
RefusesSlot x cell (Damaged place) = (place ≡ cell) × (cell_at x cell ≡ None)
RefusesSlot x cell (BadSlot place) = (place ≡ cell) × ((bytes : List ℕ) × (cell_at x cell ≡ Some bytes)
    × ((slot : Slot) → ¬ HoldsSlot bytes slot))
RefusesSlot x cell fault = ⊥

-- why the first cells aren't those of fourteen slots
abbrev pub RefusesSlots : List ℕ → GrowFault → Type 0
RefusesSlots x (Damaged cell) = SlotDamaged x cell
RefusesSlots x (BadSlot cell) = NoSlotInCell x cell
RefusesSlots x fault = ⊥

-- so many of the first routes have their cells, and the next has none
pub record HaveJust (routes : List Route) (x : List ℕ) (count : ℕ) : Type 0 where
  pub have : HaveCells routes x count
  pub lacks : (route : Route) → RouteAt routes count route → ¬ HoldsRoute x (route_cell count) route

-- the cell of this place is the first from a place on that can't be written
pub record UsedAt (x : List ℕ) (from to place : ℕ) : Type 0 where
  pub least : from ≤ place
  pub below : place < to
  pub free : FreeFrom x from place
  pub used : ¬ IsFree x (route_cell place)
