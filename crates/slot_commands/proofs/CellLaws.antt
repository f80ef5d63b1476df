-- What a cell's bytes say of the bound that it holds
use Rattle.std.proofs.Common.{◌≡◌, ℕ, ◌<◌, ◌≤◌, List, [], ◌∷◌, ◌++◌, get_or, refl, sym, ap, subst, ◌∙◌, arith, inl, inr, ⊎_elim, codes}
use Rattle.std.specs.Prelude.{Option, Some, None, ◌-◌, false, length}
use Rattle.std.specs.List.{slice_get}
use Rattle.std.proofs.Math.Dec.{ltb}
use Rattle.std.proofs.lemmas.Bool.{cases_lt, ltb-false}
use Rattle.std.proofs.lemmas.Option.{slice_get_past}
use Rattle.text_lines.specs.Written.{written}
use Rattle.basics.specs.Numbers.{number_of, bytes_of}
use Rattle.basics.proofs.CallerLemmas.{number_of-bytes_of-lt}
use Rattle.freshness_routes.specs.declared.routes.Route.{Route}
use Rattle.freshness_routes.specs.declared.routes.Direction.{Direction}
use Rattle.freshness_routes.specs.declared.routes.Direction.TheVariants.{Sends, Receives}
use Rattle.freshness_store.specs.Bound.{direction_number, bound_cell, HoldsBound, HoldsNoBound}
use Rattle.slot_commands.specs.declared.cells.Meaning.{Meaning}
use Rattle.slot_commands.specs.declared.cells.Meaning.TheVariants.{Slot, Bound, BadSlot, BadBound}
use Rattle.slot_commands.specs.Cells.{slot_count, HoldsNoBoundAtAll, SaysCell, a_slot, a_bound, no_slot, no_bound}
use Rattle.slot_commands.specs.Cells.{damaged, no_slot_there, no_bound_there, good_slot, good_bound}
use Rattle.slot_commands.specs.RouteFindings.{FindsAt, route_of_place, not_its_bound_words, as_slot, no_copy, no_route, not_its_bound, its_bound}
use Rattle.slot_commands.specs.Checked.{PushesFinding}
use Rattle.slot_commands.specs.StoreWords.{cell_words}
use Rattle.slot_commands.specs.Meanings.{Means, meaning_words}

id_bytes : (cell : List ℕ) (id : ℕ) (direction : Direction) (bound : ℕ) → cell ≡ bound_cell id direction bound
    → get_or cell 2 0 ∷ get_or cell 3 0 ∷ [] ≡ bytes_of 2 id
unfolding bound_cell bytes_of
id_bytes cell id direction bound is = rw is refl

direction_byte : (cell : List ℕ) (id : ℕ) (direction : Direction) (bound : ℕ) → cell ≡ bound_cell id direction bound
    → get_or cell 1 0 ≡ direction_number direction
unfolding bound_cell
direction_byte cell id direction bound is = rw is refl

-- the cell of a bound tells its Data ID
id_told : (cell : List ℕ) (id : ℕ) (direction : Direction) (bound : ℕ) → HoldsBound cell id direction bound
    → number_of (get_or cell 2 0 ∷ get_or cell 3 0 ∷ []) ≡ id
id_told cell id direction bound holds =
    ap number_of (id_bytes cell id direction bound holds.cell_is)
    ∙ number_of-bytes_of-lt 2 id (let fits = holds.id_fits in omega (arith, fits))

-- a cell that holds no bound of the Data ID and direction that its bytes name holds none at all
pub none_named : (cell : List ℕ) (id : ℕ) (direction : Direction) → id ≡ number_of (get_or cell 2 0 ∷ get_or cell 3 0 ∷ [])
    → ((other : Direction) → get_or cell 1 0 ≡ direction_number other → direction ≡ other)
    → HoldsNoBound cell id direction → HoldsNoBoundAtAll cell
none_named cell id direction id_is directed none other that bound holds =
    let same_id : other ≡ id = sym (id_is ∙ id_told cell other that bound holds) in
    let same_direction : that ≡ direction = sym (directed that (direction_byte cell other that bound holds.cell_is)) in
    none bound (subst (λ (d : Direction). HoldsBound cell id d bound) same_direction
    (subst (λ (i : ℕ). HoldsBound cell i that bound) same_id holds))

pub direction_one : (direction : Direction) → 1 ≡ direction_number direction → Sends ≡ direction
direction_one Sends is = refl
direction_one Receives is = absurd (omega (arith, is))

pub direction_other : (number : ℕ) → ¬ (number ≡ 1) → (direction : Direction) → number ≡ direction_number direction → Receives ≡ direction
direction_other number other Sends is = absurd (other is)
direction_other number other Receives is = refl

-- the line of a cell is that of its meaning
pub says_meaning : (place : ℕ) (cell : List ℕ) (meaning : Meaning) → Means place cell meaning
    → SaysCell place cell (meaning_words place meaning)
says_meaning place cell (Slot slot) (below, holds) = a_slot slot below holds
says_meaning place cell (Bound id direction bound) (from, holds) = a_bound id direction bound from holds
says_meaning place cell BadSlot (below, none) = no_slot below none
says_meaning place cell BadBound (from, none) = no_bound from none

-- ---- what is found of a cell, by its meaning

pub finds_bad_slot : (place : ℕ) (cell old new : List ℕ) → Means place cell BadSlot
    → new ≡ old ++ written (cell_words place (codes "BadSlot")) → PushesFinding None place (Some cell) old new
finds_bad_slot place cell old new (below, none) more = inl (cell_words place (codes "BadSlot"), no_slot_there cell below none, more)

pub finds_bad_bound : (place : ℕ) (cell old new : List ℕ) → Means place cell BadBound
    → new ≡ old ++ written (cell_words place (codes "BadBound")) → PushesFinding None place (Some cell) old new
finds_bad_bound place cell old new (from, none) more = inl (cell_words place (codes "BadBound"), no_bound_there cell from none, more)

pub finds_none : (place : ℕ) (cell text : List ℕ) (meaning : Meaning) → Means place cell meaning → ¬ (meaning ≡ BadSlot)
    → ¬ (meaning ≡ BadBound) → PushesFinding None place (Some cell) text text
finds_none place cell text (Slot slot) (below, holds) not_slot not_bound = inr (good_slot cell slot below holds, refl)
finds_none place cell text (Bound id direction bound) (from, holds) not_slot not_bound = inr (good_bound cell id direction bound from holds, refl)
finds_none place cell text BadSlot means not_slot not_bound = absurd (not_slot refl)
finds_none place cell text BadBound means not_slot not_bound = absurd (not_bound refl)

-- ---- what is found over routes

-- no copy of a cell counts
pub finds_damaged : (routes : Option (List Route)) (place : ℕ) → FindsAt routes place None (Some (cell_words place (codes "Damaged")))
finds_damaged None place = damaged
finds_damaged (Some routes) place =
    ⊎_elim (λ low. as_slot None (Some (cell_words place (codes "Damaged"))) low damaged) (λ high. no_copy high) (cases_lt place slot_count)

-- of a slot what is found by itself
pub finds_slot : (routes : List Route) (place : ℕ) (cell old new : List ℕ) → place < slot_count → PushesFinding None place (Some cell) old new
    → PushesFinding (Some routes) place (Some cell) old new
finds_slot routes place cell old new low (inl (words, finds, more)) = inl (words, as_slot (Some cell) (Some words) low finds, more)
finds_slot routes place cell old new low (inr (finds, same)) = inr (as_slot (Some cell) None low finds, same)

-- no route stands at a place after all of them
pub no_route_at : (routes : List Route) (place i : ℕ) → i ≡ place - slot_count → false ≡ ltb i (length routes) → route_of_place routes place ≡ None
no_route_at routes place i is not = subst (λ (k : ℕ). slice_get routes k ≡ None) is (slice_get_past routes i (ltb-false i (length routes) (sym not)))

pub finds_no_route : (routes : List Route) (place : ℕ) (cell old new : List ℕ) → slot_count ≤ place → route_of_place routes place ≡ None
    → new ≡ old ++ written (cell_words place (codes "NoRoute")) → PushesFinding (Some routes) place (Some cell) old new
finds_no_route routes place cell old new from none more = inl (cell_words place (codes "NoRoute"), no_route cell from none, more)

pub finds_not_its : (routes : List Route) (route : Route) (place : ℕ) (cell old new : List ℕ) → slot_count ≤ place → route_of_place routes place ≡ Some route
    → HoldsNoBound cell route.id route.direction → new ≡ old ++ written (not_its_bound_words place route)
    → PushesFinding (Some routes) place (Some cell) old new
finds_not_its routes route place cell old new from at none more = inl (not_its_bound_words place route, not_its_bound cell route from at none, more)

pub finds_its : (routes : List Route) (route : Route) (place : ℕ) (cell text : List ℕ) (bound : ℕ) → slot_count ≤ place → route_of_place routes place ≡ Some route
    → HoldsBound cell route.id route.direction bound → PushesFinding (Some routes) place (Some cell) text text
finds_its routes route place cell text bound from at holds = inr (its_bound cell route bound from at holds, refl)
