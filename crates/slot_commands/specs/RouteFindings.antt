-- What is wrong with a cell of a unit's store by itself, or if the unit is a node with these routes (own; a route is a
-- Data ID of AUTOSAR SecOC and a direction)
use Rattle.std.specs.Prelude.{◌≡◌, ℕ, ◌-◌, ◌<◌, ◌≤◌, List, [], ◌∷◌, map, drop, Option, Some, None, codes}
use Rattle.std.specs.Fmt.{decimal}
use Rattle.std.specs.List.{slice_get}
use Rattle.hex.specs.Hex.{encode_lower}
use Rattle.basics.specs.Numbers.{bytes_of}
use Rattle.freshness_routes.specs.declared.routes.Route.{Route}
use Rattle.freshness_store.specs.Bound.{HoldsBound, HoldsNoBound}
use Rattle.slot_commands.specs.StoreWords.{cell_words, direction_word}
use Rattle.slot_commands.specs.Cells.{slot_count, FindsInCell}

-- `cell CELL BadBound DATAID DIRECTION`: the Data ID in four hexadecimal digits
abbrev pub not_its_bound_words : ℕ → Route → List (List ℕ)
not_its_bound_words cell route =
    codes "cell" ∷ decimal cell ∷ codes "BadBound" ∷ encode_lower (bytes_of 2 route.id)
    ∷ direction_word route.direction ∷ []

-- `route DATAID DIRECTION NoCell`
abbrev pub no_cell_words : Route → List (List ℕ)
no_cell_words route =
    codes "route" ∷ encode_lower (bytes_of 2 route.id) ∷ direction_word route.direction ∷ codes "NoCell" ∷ []

-- the route whose bound the cell at this place is to hold: the first stands in the cell after the slots
abbrev pub route_of_place : List Route → ℕ → Option Route
route_of_place routes place = slice_get routes (place - slot_count)

-- what is wrong with what stands at a place, if anything is: a slot by itself, and each further cell by its route
pub data FindsOverRoutes (routes : List Route) (place : ℕ) : Option (List ℕ) → Option (List (List ℕ)) → Type 0 where
  as_slot : (there : Option (List ℕ)) (words : Option (List (List ℕ))) → place < slot_count
      → FindsInCell place there words → FindsOverRoutes routes place there words
  no_copy : slot_count ≤ place → FindsOverRoutes routes place None (Some (cell_words place (codes "Damaged")))
  no_route : (cell : List ℕ) → slot_count ≤ place → route_of_place routes place ≡ None
      → FindsOverRoutes routes place (Some cell) (Some (cell_words place (codes "NoRoute")))
  not_its_bound : (cell : List ℕ) (route : Route) → slot_count ≤ place → route_of_place routes place ≡ Some route
      → HoldsNoBound cell route.id route.direction
      → FindsOverRoutes routes place (Some cell) (Some (not_its_bound_words place route))
  its_bound : (cell : List ℕ) (route : Route) (bound : ℕ) → slot_count ≤ place → route_of_place routes place ≡ Some route
      → HoldsBound cell route.id route.direction bound → FindsOverRoutes routes place (Some cell) None

-- the same by itself if no routes are known
abbrev pub FindsAt : Option (List Route) → ℕ → Option (List ℕ) → Option (List (List ℕ)) → Type 0
FindsAt None place there words = FindsInCell place there words
FindsAt (Some routes) place there words = FindsOverRoutes routes place there words

-- the lines of the routes that have no cell in a store of so many cells
abbrev pub lacking_lines : Option (List Route) → ℕ → List (List (List ℕ))
lacking_lines None cells = []
lacking_lines (Some routes) cells = map no_cell_words (drop (cells - slot_count) routes)
