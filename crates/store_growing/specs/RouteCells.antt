-- What the bytes of a twin store of version 1 say of its slots and of the cells of a bus's routes: which routes have
-- theirs, and whether those of the others can be written
use Rattle.std.specs.Prelude.{◌≡◌, ◌⊎◌, ℕ, ◌+◌, ◌<◌, ◌≤◌, false, List, length, replicate, slice_index_or, Some, None}
use Rattle.cell_store.specs.declared.kinds.Kind.TheVariants.{Twin}
use Rattle.cell_store.specs.Layout.{part}
use Rattle.cell_store.specs.Twin.{cell_at, first_at, second_at, is_live}
use Rattle.key_slots.specs.declared.memory.Slot.{Slot}
use Rattle.slot_disk.specs.Cell.{HoldsSlot}
use Rattle.freshness_routes.specs.declared.routes.Route.{Route}
use Rattle.freshness_store.specs.Bound.{bound_cell, HoldsBound}
use Rattle.store_growing.specs.declared.faults.GrowFault.{GrowFault}
use Rattle.store_growing.specs.declared.faults.GrowFault.TheVariants.{DiskFailed, NotFormatted, TooSmall, BadBound}
use Rattle.store_growing.specs.declared.faults.GrowFault.TheVariants.{OtherStore, Damaged, BadSlot, Memory}
use Rattle.store_growing.specs.StoreHeaders.{cells_counted, HasFirstHead}

-- the cell of the route at this place: the fourteen key slots have those before
abbrev pub route_cell : ℕ → ℕ
route_cell place = 14 + place

-- this route stands at this place
abbrev pub RouteAt : List Route → ℕ → Route → Type 0
RouteAt routes place route = (place < length routes) × (route ≡ slice_index_or routes place route)

-- the cell of a route that has done nothing yet
abbrev pub first_bound : Route → List ℕ
first_bound route = bound_cell route.id route.direction route.start

-- this cell holds a bound of the route
abbrev pub HoldsRoute : List ℕ → ℕ → Route → Type 0
HoldsRoute x cell route = (bytes : List ℕ) × (bound : ℕ) × (cell_at x cell ≡ Some bytes)
    × HoldsBound bytes route.id route.direction bound

-- this cell holds a key slot, empty or filled
abbrev pub HasSlot : List ℕ → ℕ → Type 0
HasSlot x cell = (bytes : List ℕ) × (slot : Slot) × (cell_at x cell ≡ Some bytes) × HoldsSlot bytes slot

-- so many of the first cells hold one each
abbrev pub HaveSlots : List ℕ → ℕ → Type 0
HaveSlots x count = (cell : ℕ) → cell < count → HasSlot x cell

-- n bytes of x from a place on are as an erase leaves them: all 00, or all ff
abbrev pub AreErased : ℕ → ℕ → List ℕ → Type 0
AreErased at n x = (part at n x ≡ replicate n 0) ⊎ (part at n x ≡ replicate n 0xff)

-- This cell can be written: it isn't counted, the gate of its first copy isn't live, and its second copy is erased. So it
-- holds nothing. A growth that was cut leaves such cells.
pub record IsFree (x : List ℕ) (cell : ℕ) : Type 0 where
  pub uncounted : cells_counted x ≤ cell
  pub closed : is_live (part (first_at cell) 34 x) ≡ false
  pub erased : AreErased (second_at cell) 34 x

-- the cells of the places from one on, below another, can be written
abbrev pub FreeFrom : List ℕ → ℕ → ℕ → Type 0
FreeFrom x from to = (place : ℕ) → from ≤ place → place < to → IsFree x (route_cell place)

-- so many of the first routes have their cells
pub record HaveCells (routes : List Route) (x : List ℕ) (count : ℕ) : Type 0 where
  pub few : count ≤ length routes
  pub held : (place : ℕ) (route : Route) → place < count → RouteAt routes place route
      → HoldsRoute x (route_cell place) route

-- where a cell after those of all routes would stand x is erased
abbrev pub RoutesEndErased : List Route → List ℕ → Type 0
RoutesEndErased routes x = AreErased (first_at (route_cell (length routes))) 68 x

-- A twin store of version 1 has its fourteen slots. So many of the first routes have their cells, and those of the
-- others can be written. What comes after them is erased, so the store has no further cell: a number above that of the
-- routes' cells is one that a cut left.
pub record CanGrow (routes : List Route) (x : List ℕ) (count : ℕ) : Type 0 where
  pub head : HasFirstHead Twin x
  pub slots : HaveSlots x 14
  pub have : HaveCells routes x count
  pub free : FreeFrom x count (length routes)
  pub ends : RoutesEndErased routes x

-- ---- why no cell is written, of bytes that begin as a twin store of version 1: the causes in the order in which they
-- are looked for

-- no copy of this cell counts; it is one of the fourteen, and those before hold their slots
pub record SlotDamaged (x : List ℕ) (cell : ℕ) : Type 0 where
  pub below : cell < 14
  pub before : HaveSlots x cell
  pub none : cell_at x cell ≡ None

-- or what it holds is no slot
pub record NoSlotInCell (x : List ℕ) (cell : ℕ) : Type 0 where
  pub below : cell < 14
  pub before : HaveSlots x cell
  pub bytes : List ℕ
  pub holds : cell_at x cell ≡ Some bytes
  pub none : (slot : Slot) → ¬ HoldsSlot bytes slot

-- the slots are whole, and this cell is the first that can't be written, from that of the first route on that has none
pub record HoldsOther (routes : List Route) (x : List ℕ) (cell : ℕ) : Type 0 where
  pub slots : HaveSlots x 14
  pub count : ℕ
  pub have : HaveCells routes x count
  pub lacks : (route : Route) → RouteAt routes count route → ¬ HoldsRoute x (route_cell count) route
  pub place : ℕ
  pub from : count ≤ place
  pub below : place < length routes
  pub is : cell ≡ route_cell place
  pub free : FreeFrom x count place
  pub used : ¬ IsFree x (route_cell place)

-- the slots are whole, and each route has its cell, or it can be written, but what comes after them isn't erased
pub record IsUsedAfter (routes : List Route) (x : List ℕ) : Type 0 where
  pub slots : HaveSlots x 14
  pub count : ℕ
  pub have : HaveCells routes x count
  pub free : FreeFrom x count (length routes)
  pub used : ¬ RoutesEndErased routes x

-- for which fault of these bytes; the other faults aren't theirs
abbrev pub RefusesBytes : List Route → List ℕ → GrowFault → Type 0
RefusesBytes routes x (Damaged cell) = SlotDamaged x cell
RefusesBytes routes x (BadSlot cell) = NoSlotInCell x cell
RefusesBytes routes x (BadBound cell) = HoldsOther routes x cell
RefusesBytes routes x TooSmall = IsUsedAfter routes x
RefusesBytes routes x (OtherStore there) = ⊥
RefusesBytes routes x NotFormatted = ⊥
RefusesBytes routes x Memory = ⊥
RefusesBytes routes x DiskFailed = ⊥
