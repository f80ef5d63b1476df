-- The cells of routes that are written one after the other: what stays, and which routes have their cells then
use Rattle.std.proofs.Common.{◌≡◌, ◌∙◌, ◌≢◌, ℕ, zero, suc, ◌+◌, ◌*◌, ◌<◌, ◌≤◌, List, [], ◌∷◌, length, drop, get_or, refl, sym, ap, subst, inl, inr, arith}
use Rattle.std.proofs.Common.{Some, false}
use Rattle.std.specs.List.{All}
use Rattle.std.proofs.lemmas.Bool.{cases_lt}
use Rattle.std.proofs.lemmas.List.{get_or_default, length-drop}
use Rattle.std.proofs.lemmas.List.Elements.{All-get_or}
use Rattle.cell_store.specs.Layout.{SameOutside, part}
use Rattle.cell_store.specs.Twin.{cell_at, is_live, twin_size, first_at, second_at}
use Rattle.cell_store.proofs.CallerLemmas.{part-same, part-splice, SameOutside-after, SameOutside-refl, SameOutside-widen}
use Rattle.freshness_routes.specs.declared.routes.Route.{Route}
use Rattle.freshness_routes.specs.Config.{IsRoute}
use Rattle.cell_store.specs.declared.kinds.Kind.TheVariants.{Twin}
use Rattle.store_growing.specs.StoreHeaders.{HasFirstHead}
use Rattle.store_growing.specs.RouteCells.{route_cell, RouteAt, first_bound, HaveSlots, HoldsRoute, AreErased, IsFree, FreeFrom, HaveCells, RoutesEndErased, CanGrow}
use Rattle.store_growing.specs.LookSteps.{HaveJust}
use Rattle.store_growing.specs.GrowingStores.{first_copy, with_cell, with_cells, with_routes}
use Rattle.store_growing.proofs.OneCell.{Apart, head_same, counted_same, cell_same, held_same, slot_same, erased_same, free_same, erased_closed, whole_holds, copy_sized, with_cell_same}

-- ---- a route at its place

pub same_at : (routes : List Route) (place : ℕ) (a b : Route) → RouteAt routes place a → RouteAt routes place b → a ≡ b
same_at routes place a b at other = at.1 ∙ (get_or_default routes place a b at.0 ∙ sym other.1)

route_there : (routes : List Route) (place : ℕ) (any : Route) → place < length routes → RouteAt routes place (get_or routes place any)
route_there routes place any below = (below, get_or_default routes place any (get_or routes place any) below)

-- a list that isn't at its end has a route there
pub routes_some : (routes : List Route) (place : ℕ) → place < length routes → (route : Route) × RouteAt routes place route
routes_some [] place below = absurd (omega (arith, below))
routes_some (first ∷ routes) place below = (get_or (first ∷ routes) place first, route_there (first ∷ routes) place first below)

-- the routes from one on begin with it
pub drop_at_route : (routes : List Route) (count : ℕ) (route : Route) (rest : List Route) → drop count routes ≡ route ∷ rest
    → RouteAt routes count route × (drop (count + 1) routes ≡ rest)
drop_at_route [] zero route rest is = absurd (cc)
drop_at_route [] (suc count) route rest is = absurd (cc)
drop_at_route (first ∷ routes) zero route rest is = ((omega arith, (cc)), (cc))
drop_at_route (first ∷ routes) (suc count) route rest is =
    let more = drop_at_route routes count route rest is in
    let e : suc count + 1 ≡ suc (count + 1) = omega arith in
    ((let low = more.0.0 in omega (arith, low), more.0.1), ap (λ (k : ℕ). drop k (first ∷ routes)) e ∙ more.1)

-- ---- the routes that have their cells, and the cells that can be written

pub have_none : (routes : List Route) (x : List ℕ) → HaveCells routes x 0
have_none routes x = record { few = omega arith; held = λ place route low at. absurd (omega (arith, low)) }

pub have_more : (routes : List Route) (x : List ℕ) (count : ℕ) (route : Route) → HaveCells routes x count → RouteAt routes count route
    → HoldsRoute x (route_cell count) route → HaveCells routes x (count + 1)
have_more routes x count route have at held = record {
  few = let low = at.0 in omega (arith, low);
  held = λ place other low there. elim (cases_lt place count) [
    | inl before ↦ have.held place other before there
    | inr from ↦ (let e : place ≡ count = omega (arith, from, low) in
        let same : route ≡ other = same_at routes count route other at (subst (λ (k : ℕ). RouteAt routes k other) e there) in
        subst (λ (k : ℕ). HoldsRoute x (route_cell k) other) (sym e)
        (subst (λ (r : Route). HoldsRoute x (route_cell count) r) same held))
  ];
}

pub have_just : (routes : List Route) (x : List ℕ) (count : ℕ) (route : Route) → HaveCells routes x count → RouteAt routes count route
    → ¬ HoldsRoute x (route_cell count) route → HaveJust routes x count
have_just routes x count route have at none = record {
  have = have;
  lacks = λ other there. subst (λ (r : Route). ¬ HoldsRoute x (route_cell count) r) (same_at routes count route other at there) none;
}

pub have_all : (routes : List Route) (x : List ℕ) → HaveCells routes x (length routes) → HaveJust routes x (length routes)
have_all routes x have = record { have = have; lacks = λ route at. absurd (let low = at.0 in omega (arith, low)) }

pub free_more : (x : List ℕ) (from to : ℕ) → FreeFrom x from to → IsFree x (route_cell to) → FreeFrom x from (to + 1)
free_more x from to free last place least below = elim (cases_lt place to) [
  | inl before ↦ free place least before
  | inr after ↦ (let e : to ≡ place = omega (arith, after, below) in subst (λ (k : ℕ). IsFree x (route_cell k)) e last)
]

pub first_or_later : (x : List ℕ) (from : ℕ) → IsFree x (route_cell from) → (place : ℕ) → from ≤ place
    → (from < place → IsFree x (route_cell place)) → IsFree x (route_cell place)
first_or_later x from free place least later = elim (cases_lt from place) [
  | inl more ↦ later more
  | inr to ↦ (let e : from ≡ place = omega (arith, least, to) in subst (λ (k : ℕ). IsFree x (route_cell k)) e free)
]

-- ---- what stays outside of the cells that are written

pub cells_within : (cell : ℕ) (routes : List Route) (x : List ℕ) → twin_size (cell + length routes) ≤ length x
    → SameOutside (first_at cell) (68 * length routes) x (with_cells cell routes x)
cells_within cell [] x room = SameOutside-refl (first_at cell) 0 x
cells_within cell (route ∷ rest) x room =
    let one : SameOutside (first_at cell) 34 x (with_cell cell route x) = with_cell_same cell route x (omega (arith, room)) in
    let long : length (with_cell cell route x) ≡ length x = one.lengths in
    let more = cells_within (1 + cell) rest (with_cell cell route x) (omega (arith, room, long)) in
    SameOutside-after (first_at cell) (68 * length (route ∷ rest)) x (with_cell cell route x) (with_cells (1 + cell) rest (with_cell cell route x))
    (SameOutside-widen (first_at cell) 34 (first_at cell) (68 * length (route ∷ rest)) x (with_cell cell route x) (omega arith) (omega arith) one)
    (SameOutside-widen (first_at (1 + cell)) (68 * length rest) (first_at cell) (68 * length (route ∷ rest)) (with_cell cell route x)
    (with_cells (1 + cell) rest (with_cell cell route x)) (omega arith) (omega arith) more)

-- ---- one cell more

module _ (routes : List Route) (x : List ℕ) (count : ℕ) (route : Route) (few : length routes ≤ 256) (are : All IsRoute routes)
    (room : twin_size (route_cell (length routes) + 1) ≤ length x) (can : CanGrow routes x count) (at : RouteAt routes count route) where
  below : count < length routes
  below = at.0

  abbrev here : ℕ
  here = route_cell count

  module _ (y : List ℕ) (same : SameOutside (first_at here) 34 x y) where
    beside : (place : ℕ) → place ≢ count → Apart (first_at (route_cell place)) 68 (first_at here) 34
    beside place other = elim (cases_lt place count) [
      | inl less ↦ inl (omega (arith, less))
      | inr from ↦ (let more : count < place = omega (arith, from, other) in inr (omega (arith, more)))
    ]

    wide : length y ≡ length x
    wide = same.lengths

    head_kept : HasFirstHead Twin y
    head_kept n =
        head_same n x y (omega (arith, room)) (omega (arith, room, wide))
        (part-same 0 32 (first_at here) 34 x y same (inl (omega arith))) (can.head n)

    slots_kept : HaveSlots y 14
    slots_kept cell low = slot_same cell (first_at here) 34 x y same (inl (omega (arith, low))) (can.slots cell low)

    held_kept : (place : ℕ) (other : Route) → place < count → RouteAt routes place other → HoldsRoute y (route_cell place) other
    held_kept place other low there =
        held_same (route_cell place) (first_at here) 34 other x y same (beside place (λ e. omega (arith, e, low))) (can.have.held place other low there)

    free_after : (place : ℕ) → count < place → place < length routes → IsFree y (route_cell place)
    free_after place after low =
        free_same (route_cell place) (first_at here) 34 x y (omega arith) same (beside place (λ e. omega (arith, e, after)))
        (can.free place (omega (arith, after)) low)

    ends_kept : RoutesEndErased routes y
    ends_kept = erased_same (first_at (route_cell (length routes))) 68 (first_at here) 34 x y same (inr (omega (arith, below))) can.ends

    was : IsFree x here
    was = can.free count (omega arith) below

    second_kept : AreErased (second_at here) 34 y
    second_kept = erased_same (second_at here) 34 (first_at here) 34 x y same (inr (omega arith)) was.erased

    -- its gate isn't live
    pub still : is_live (part (first_at here) 34 y) ≡ false → CanGrow routes y count
    still closed = record {
      head = head_kept;
      slots = slots_kept;
      have = record { few = can.have.few; held = held_kept };
      free = λ place from low. elim (cases_lt count place) [
        | inl after ↦ free_after place after low
        | inr to ↦ (let e : place ≡ count = omega (arith, from, to) in
            subst (λ (k : ℕ). IsFree y (route_cell k)) (sym e) (record {
              uncounted = let u = was.uncounted in omega (arith, u, counted_same (first_at here) 34 x y (omega arith) same);
              closed = closed;
              erased = second_kept;
            }))
      ];
      ends = ends_kept;
    }

    first_holds : part (first_at here) 34 y ≡ first_copy route → HoldsRoute y here route
    first_holds whole =
        let is : IsRoute route = subst IsRoute (sym at.1) (All-get_or IsRoute routes count route below are) in (
          first_bound route,
          route.start,
          whole_holds here (first_bound route) y whole (erased_closed (second_at here) y second_kept),
          record { id_fits = is.id_fits; bound_fits = is.start_fits; cell_is = refl },
        )

    -- it is whole
    pub one_more : part (first_at here) 34 y ≡ first_copy route → CanGrow routes y (count + 1)
    one_more whole = record {
      head = head_kept;
      slots = slots_kept;
      have = have_more routes y count route (record { few = can.have.few; held = held_kept }) at (first_holds whole);
      free = λ place from low. free_after place (omega (arith, from)) low;
      ends = ends_kept;
    }

  pub written_can : CanGrow routes (with_cell here route x) (count + 1)
  written_can =
      one_more (with_cell here route x) (with_cell_same here route x (omega (arith, room, below)))
      (part-splice (first_at here) 34 (first_copy route) x (sym (copy_sized route)) (omega (arith, copy_sized route, room, below)))

  pub written_holds : cell_at (with_cell here route x) here ≡ Some (first_bound route)
  written_holds =
      whole_holds here (first_bound route) (with_cell here route x)
      (part-splice (first_at here) 34 (first_copy route) x (sym (copy_sized route)) (omega (arith, copy_sized route, room, below)))
      (erased_closed (second_at here) (with_cell here route x)
      (second_kept (with_cell here route x) (with_cell_same here route x (omega (arith, room, below)))))

-- ---- all of them

-- each route has its cell then, those that are new the first bound
pub record AllWritten (routes : List Route) (count : ℕ) (x w : List ℕ) : Type 0 where
  pub can : CanGrow routes w (length routes)
  pub new : (place : ℕ) (route : Route) → count ≤ place → RouteAt routes place route → cell_at w (route_cell place) ≡ Some (first_bound route)

pub all_written : (routes : List Route) (x : List ℕ) (count cell : ℕ) (rest : List Route) → length routes ≤ 256 → All IsRoute routes
    → twin_size (route_cell (length routes) + 1) ≤ length x → CanGrow routes x count → cell ≡ route_cell count → drop count routes ≡ rest
    → AllWritten routes count x (with_cells cell rest x)
all_written routes x count cell [] few are room can cell_is is =
    let most = can.have.few in
    let all : count ≡ length routes = omega (arith, most, ap length is, length-drop count routes) in
    record {
      can = subst (CanGrow routes x) all can;
      new = λ place route from at. absurd (let low = at.0 in omega (arith, from, low, all));
    }
all_written routes x count cell (route ∷ more) few are room can cell_is is =
    let there = drop_at_route routes count route more is in
    let low = there.0.0 in
    let at_cell : with_cell (route_cell count) route x ≡ with_cell cell route x = ap (λ (k : ℕ). with_cell k route x) (sym cell_is) in
    let can_more : CanGrow routes (with_cell cell route x) (count + 1) =
    subst (λ (w : List ℕ). CanGrow routes w (count + 1)) at_cell (written_can routes x count route few are room can there.0) in
    let long : length (with_cell cell route x) ≡ length x = (with_cell_same cell route x (omega (arith, cell_is, room, low))).lengths in
    let fits : twin_size (1 + cell + length more) ≤ length (with_cell cell route x) =
    omega (arith, room, long, cell_is, ap length there.1, length-drop (count + 1) routes, low) in
    let end : AllWritten routes (count + 1) (with_cell cell route x) (with_cells (1 + cell) more (with_cell cell route x)) =
    all_written routes (with_cell cell route x) (count + 1) (1 + cell) more few are (omega (arith, room, long)) can_more (omega (arith, cell_is)) there.1 in
    record {
      can = end.can;
      new = λ place other from at. elim (cases_lt count place) [
        | inl after ↦ end.new place other (omega (arith, after)) at
        | inr to ↦ (let e : place ≡ count = omega (arith, from, to) in
            let same : route ≡ other = same_at routes count route other there.0 (subst (λ (k : ℕ). RouteAt routes k other) e at) in
            let holds : cell_at (with_cell cell route x) (route_cell count) ≡ Some (first_bound route) =
            ap (λ (w : List ℕ). cell_at w (route_cell count)) (sym at_cell) ∙ written_holds routes x count route few are room can there.0 in
            let kept : cell_at (with_cells (1 + cell) more (with_cell cell route x)) (route_cell count) ≡ cell_at (with_cell cell route x) (route_cell count) =
            cell_same (route_cell count) (first_at (1 + cell)) (68 * length more) (with_cell cell route x) (with_cells (1 + cell) more (with_cell cell route x))
            (cells_within (1 + cell) more (with_cell cell route x) fits) (inl (omega (arith, cell_is))) in
            subst (λ (k : ℕ). cell_at (with_cells (1 + cell) more (with_cell cell route x)) (route_cell k) ≡ Some (first_bound other)) (sym e)
            (kept ∙ (holds ∙ ap (λ (r : Route). Some (first_bound r)) same)))
      ];
    }

pub routes_written : (routes : List Route) (x : List ℕ) (count : ℕ) → length routes ≤ 256 → All IsRoute routes
    → twin_size (route_cell (length routes) + 1) ≤ length x → CanGrow routes x count → AllWritten routes count x (with_routes routes count x)
routes_written routes x count few are room can = all_written routes x count (route_cell count) (drop count routes) few are room can refl refl
