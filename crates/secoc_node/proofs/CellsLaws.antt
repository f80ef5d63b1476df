-- The list of a node's cells: its length, its parts, what a change makes of it, and what it tells
use Rattle.std.proofs.Common.{◌≡◌, ℕ, zero, suc, ◌+◌, ◌<◌, List, [], ◌∷◌, ◌++◌, length, set, map, get_or, refl, sym, ap, subst, ◌∙◌, arith}
use Rattle.std.proofs.lemmas.List.{length-append, length-map, take_at, get_or_append_left, get_or-append-add, set-append_left, map-set, get_or_default}
use Rattle.key_slots.specs.declared.memory.Slot.{Slot}
use Rattle.slot_disk.specs.Cell.{slot_cell, HoldSlots}
use Rattle.freshness_routes.specs.declared.routes.Route.{Route}
use Rattle.freshness_routes.specs.Config.{Config}
use Rattle.freshness_store.specs.Bound.{bound_cell, HoldsBound, HoldsNoBound}
use Rattle.bus_machine.specs.Node.{Kept, slot_to, bound_to, changed, no_route}
use Rattle.secoc_node.specs.Cells.{bound_cells, CellsOf, IsKept, cell_in, route_in, HoldsSomeBound, HoldsBounds}

-- the cell of this route's bound
abbrev pub cell_of_route : Route → ℕ → List ℕ
cell_of_route route bound = bound_cell route.id route.direction bound

-- ---- the cells of bounds

pub length-bound_cells : (routes : List Route) (bounds : List ℕ) → length bounds ≡ length routes → length (bound_cells routes bounds) ≡ length routes
length-bound_cells [] bounds same = refl
length-bound_cells (route ∷ routes) [] same = same
length-bound_cells (route ∷ routes) (bound ∷ bounds) same = ap suc (length-bound_cells routes bounds (omega (arith, same)))

pub get_or-bound_cells : (routes : List Route) (bounds : List ℕ) (k : ℕ) → length bounds ≡ length routes → k < length routes
    → get_or (bound_cells routes bounds) k [] ≡ cell_of_route (route_in routes k) (get_or bounds k 0)
get_or-bound_cells [] bounds k same inside = absurd (omega (arith, inside))
get_or-bound_cells (route ∷ routes) [] k same inside = absurd (omega (arith, same, inside))
get_or-bound_cells (route ∷ routes) (bound ∷ bounds) zero same inside = refl
get_or-bound_cells (route ∷ routes) (bound ∷ bounds) (suc k) same inside = get_or-bound_cells routes bounds k (omega (arith, same)) (omega (arith, inside))

pub bound_cells-set : (routes : List Route) (bounds : List ℕ) (k bound : ℕ) → length bounds ≡ length routes → k < length routes
    → bound_cells routes (set bounds k bound) ≡ set (bound_cells routes bounds) k (cell_of_route (route_in routes k) bound)
bound_cells-set [] bounds k bound same inside = absurd (omega (arith, inside))
bound_cells-set (route ∷ routes) [] k bound same inside = absurd (omega (arith, same, inside))
bound_cells-set (route ∷ routes) (b ∷ bounds) zero bound same inside = refl
bound_cells-set (route ∷ routes) (b ∷ bounds) (suc k) bound same inside =
    ap (λ rest. cell_of_route route b ∷ rest) (bound_cells-set routes bounds k bound (omega (arith, same)) (omega (arith, inside)))

set-append-add : (xs ys : List (List ℕ)) (k : ℕ) (y : List ℕ) → set (xs ++ ys) (length xs + k) y ≡ xs ++ set ys k y
set-append-add [] ys k y = ap (λ i. set ys i y) (omega arith)
set-append-add (x ∷ xs) ys k y =
    let on : length (x ∷ xs) + k ≡ suc (length xs + k) = omega arith in
    ap (λ i. set (x ∷ (xs ++ ys)) i y) on ∙ ap (λ rest. x ∷ rest) (set-append-add xs ys k y)

-- ---- all cells

module _ (config : Config) (kept : Kept) (is : IsKept config kept) where
  slots_length : length (map slot_cell kept.slots) ≡ 14
  slots_length = length-map kept.slots slot_cell ∙ is.slots.size

  pub length-CellsOf : length (CellsOf config kept) ≡ 14 + length config.routes
  unfolding CellsOf
  length-CellsOf =
      omega (arith, length-append (map slot_cell kept.slots) (bound_cells config.routes kept.bounds), slots_length, length-bound_cells config.routes kept.bounds is.bounds)

  -- the first fourteen are those of the slots
  pub hold_slots : HoldSlots (CellsOf config kept) kept.slots
  unfolding CellsOf
  hold_slots = record { are_slots = is.slots; cells_are = take_at (map slot_cell kept.slots) (bound_cells config.routes kept.bounds) 14 slots_length }

  pub cell_of_kept_slot : (k : ℕ) → k < 14 → cell_in (CellsOf config kept) k ≡ get_or (map slot_cell kept.slots) k []
  unfolding CellsOf
  cell_of_kept_slot k inside = get_or_append_left (map slot_cell kept.slots) (bound_cells config.routes kept.bounds) [] k (omega (arith, slots_length, inside))

  -- and after them are those of the bounds
  pub cell_of_kept_bound : (k : ℕ) → k < length config.routes → cell_in (CellsOf config kept) (14 + k) ≡ cell_of_route (route_in config.routes k) (get_or kept.bounds k 0)
  unfolding CellsOf
  cell_of_kept_bound k inside =
      ap (λ n. get_or (map slot_cell kept.slots ++ bound_cells config.routes kept.bounds) (n + k) []) (sym slots_length)
      ∙ get_or-append-add (map slot_cell kept.slots) (bound_cells config.routes kept.bounds) k []
      ∙ get_or-bound_cells config.routes kept.bounds k is.bounds inside

  -- a change of a slot changes its cell
  pub CellsOf-slot : (target : ℕ) (slot : Slot) → target < 14 → CellsOf config (changed (slot_to target slot) kept) ≡ set (CellsOf config kept) target (slot_cell slot)
  unfolding CellsOf
  CellsOf-slot target slot inside =
      ap (λ front. front ++ bound_cells config.routes kept.bounds) (map-set slot_cell kept.slots target slot)
      ∙ sym (set-append_left (map slot_cell kept.slots) (bound_cells config.routes kept.bounds) target (slot_cell slot) (omega (arith, slots_length, inside)))

  -- a change of a bound changes its cell
  pub CellsOf-bound : (k bound : ℕ) → k < length config.routes
      → CellsOf config (changed (bound_to k bound) kept) ≡ set (CellsOf config kept) (14 + k) (cell_of_route (route_in config.routes k) bound)
  unfolding CellsOf
  CellsOf-bound k bound inside =
      ap (λ rest. map slot_cell kept.slots ++ rest) (bound_cells-set config.routes kept.bounds k bound is.bounds inside)
      ∙ sym (set-append-add (map slot_cell kept.slots) (bound_cells config.routes kept.bounds) k (cell_of_route (route_in config.routes k) bound))
      ∙ ap (λ n. set (map slot_cell kept.slots ++ bound_cells config.routes kept.bounds) (n + k) (cell_of_route (route_in config.routes k) bound)) slots_length

-- ---- cells that are read

-- the cell of a route's bound, as it was read
module _ (routes : List Route) (cells : List (List ℕ)) (place cell : ℕ) (route : Route) (inside : place < length routes) (at : cell ≡ 14 + place) (here : route ≡ get_or routes place route) where
  route_is : route ≡ route_in routes place
  route_is = here ∙ get_or_default routes place route no_route inside

  pub bound_there : (bound : ℕ) → HoldsBound (cell_in cells cell) route.id route.direction bound → HoldsSomeBound routes cells place
  bound_there bound holds = (
    bound,
    subst (λ r. HoldsBound (cell_in cells (14 + place)) r.id r.direction bound) route_is
        (subst (λ n. HoldsBound (cell_in cells n) route.id route.direction bound) at holds),
  )

  pub no_bound_there : HoldsBounds routes cells → HoldsNoBound (cell_in cells cell) route.id route.direction → ⊥
  no_bound_there all none =
      let some = all place inside in
      none some.0
      (subst (λ n. HoldsBound (cell_in cells n) route.id route.direction some.0) (sym at)
      (subst (λ r. HoldsBound (cell_in cells (14 + place)) r.id r.direction some.0) (sym route_is) some.1))
