-- The cells in which a store keeps what outlasts a power cut of a node (own)
use Rattle.std.specs.Prelude.{◌≡◌, ℕ, ◌+◌, ◌^◌, ◌<◌, List, [], ◌∷◌, ◌++◌, length, map, All, slice_index_or}
use Rattle.key_slots.specs.declared.memory.Slot.{Slot}
use Rattle.key_slots.specs.Slots.{IsSlots}
use Rattle.slot_disk.specs.Cell.{slot_cell, HoldSlots}
use Rattle.freshness_routes.specs.declared.routes.Route.{Route}
use Rattle.freshness_routes.specs.Config.{Config}
use Rattle.freshness_store.specs.Bound.{bound_cell, HoldsBound, HoldsNoBound}
use Rattle.bus_machine.specs.Node.{Kept, no_route}

-- the cell of each route's bound
abbrev pub bound_cells : List Route → List ℕ → List (List ℕ)
bound_cells [] bounds = []
bound_cells (route ∷ routes) [] = []
bound_cells (route ∷ routes) (bound ∷ bounds) = bound_cell route.id route.direction bound ∷ bound_cells routes bounds

-- fourteen cells of slots, and after them the cell of each route's bound
unfoldable pub CellsOf : Config → Kept → List (List ℕ)
CellsOf config kept = map slot_cell kept.slots ++ bound_cells config.routes kept.bounds

-- what the code's nodes keep: fourteen slots, and a bound below 2^64 for each route
pub record IsKept (config : Config) (kept : Kept) : Type 0 where
  pub slots : IsSlots kept.slots
  pub bounds : length kept.bounds ≡ length config.routes
  pub fit : All (λ bound. bound < 2 ^ 64) kept.bounds

-- ---- cells that keep nothing of a node

-- the cell at this place, from 14 on
abbrev pub cell_in : List (List ℕ) → ℕ → List ℕ
cell_in cells place = slice_index_or cells place []

-- the route at a place
abbrev pub route_in : List Route → ℕ → Route
route_in routes k = slice_index_or routes k no_route

-- the cell of the bound of the route at this place holds one
abbrev pub HoldsSomeBound : List Route → List (List ℕ) → ℕ → Type 0
HoldsSomeBound routes cells k =
    (bound : ℕ) × HoldsBound (cell_in cells (14 + k)) (route_in routes k).id (route_in routes k).direction bound

-- the cell of each route's bound holds one
abbrev pub HoldsBounds : List Route → List (List ℕ) → Type 0
HoldsBounds routes cells = (k : ℕ) → k < length routes → HoldsSomeBound routes cells k

-- the fourteen slots are there, and a bound of each route
pub record SlotsAndBounds (routes : List Route) (cells : List (List ℕ)) : Type 0 where
  pub slots : List Slot
  pub held : HoldSlots cells slots
  pub bounds : HoldsBounds routes cells

-- the cell of the bound of this route holds none of it, and each before it holds one
pub record FirstBadBound (routes : List Route) (cells : List (List ℕ)) (bad : ℕ) : Type 0 where
  pub route : ℕ
  pub below : route < length routes
  pub cell : bad ≡ 14 + route
  pub none : HoldsNoBound (cell_in cells (14 + route)) (route_in routes route).id (route_in routes route).direction
  pub before : (k : ℕ) → k < route → HoldsSomeBound routes cells k

-- the fourteen slots are there, and this is the first bound that isn't
pub record SlotsButNoBound (routes : List Route) (cells : List (List ℕ)) (bad : ℕ) : Type 0 where
  pub slots : List Slot
  pub held : HoldSlots cells slots
  pub first : FirstBadBound routes cells bad
