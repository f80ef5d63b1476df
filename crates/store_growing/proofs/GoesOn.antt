-- What the power left of a growth goes on to the same end
use Rattle.std.proofs.Common.{◌≡◌, ◌⊎◌, ◌∙◌, ℕ, ◌+◌, ◌*◌, ◌≤◌, List, [], ◌∷◌, length, drop, refl, sym, ap, subst, inl, inr, arith}
use Rattle.std.proofs.Common.{false}
use Rattle.std.specs.List.{All}
use Rattle.std.proofs.lemmas.List.{length-drop}
use Rattle.basics.specs.Numbers.{bytes_of}
use Rattle.basics.proofs.CallerLemmas.{length-bytes_of}
use Rattle.cell_store.specs.Layout.{SameOutside, part}
use Rattle.cell_store.specs.Twin.{is_live, twin_size, first_at}
use Rattle.cell_store.specs.Writing.{Unfinished}
use Rattle.cell_store.proofs.CallerLemmas.{part-same, SameOutside-after, SameOutside-widen}
use Rattle.freshness_routes.specs.declared.routes.Route.{Route}
use Rattle.freshness_routes.specs.Config.{IsRoute}
use Rattle.store_plan.specs.Growing.{with_number}
use Rattle.store_plan.proofs.CallerLemmas.{but-count}
use Rattle.store_growing.specs.RouteCells.{route_cell, RouteAt, CanGrow}
use Rattle.store_growing.specs.GrowingStores.{first_copy, with_cell, with_cells, with_routes, CutsCells, within, later, LeftOf}
use Rattle.store_growing.proofs.OneCell.{Apart, written_over, is_written, held_same, slot_same, erased_same, copy_sized, with_cell_same}
use Rattle.store_growing.proofs.CellsWritten.{drop_at_route, still, one_more, written_can, routes_written, cells_within}

-- ---- what is left lies within the cells that are written

pub cuts_within : (cell : ℕ) (routes : List Route) (x y : List ℕ) → twin_size (cell + length routes) ≤ length x → CutsCells cell routes x y
    → SameOutside (first_at cell) (68 * length routes) x y
cuts_within cell routes x y room (within _ route rest _ _ cut) =
    SameOutside-widen (first_at cell) 34 (first_at cell) (68 * length (route ∷ rest)) x y (omega arith) (omega arith) cut.same
cuts_within cell routes x y room (later _ route rest _ _ cuts) =
    let one : SameOutside (first_at cell) 34 x (with_cell cell route x) = with_cell_same cell route x (omega (arith, room)) in
    let long : length (with_cell cell route x) ≡ length x = one.lengths in
    let more = cuts_within (1 + cell) rest (with_cell cell route x) y (omega (arith, room, long)) cuts in
    SameOutside-after (first_at cell) (68 * length (route ∷ rest)) x (with_cell cell route x) y
    (SameOutside-widen (first_at cell) 34 (first_at cell) (68 * length (route ∷ rest)) x (with_cell cell route x) (omega arith) (omega arith) one)
    (SameOutside-widen (first_at (1 + cell)) (68 * length rest) (first_at cell) (68 * length (route ∷ rest)) (with_cell cell route x) y
    (omega arith) (omega arith) more)

-- ---- it can grow, and to the same bytes

pub record Goes (routes : List Route) (w y : List ℕ) : Type 0 where
  pub count : ℕ
  pub can : CanGrow routes y count
  pub same : with_number (route_cell (length routes)) (with_routes routes count y) ≡ with_number (route_cell (length routes)) w

-- after the first of them is written, the others are those from the next place on
module _ (routes : List Route) (count : ℕ) (route : Route) (more : List Route) (is : drop count routes ≡ route ∷ more) where
  these_routes : (w : List ℕ) → with_routes routes count w ≡ with_cells (1 + route_cell count) more (with_cell (route_cell count) route w)
  these_routes w = ap (λ (rs : List Route). with_cells (route_cell count) rs w) is

  next_routes : (w : List ℕ) → with_routes routes (count + 1) w ≡ with_cells (1 + route_cell count) more w
  next_routes w =
      ap (λ (rs : List Route). with_cells (route_cell (count + 1)) rs w) (drop_at_route routes count route more is).1
      ∙ ap (λ (k : ℕ). with_cells k more w) (let e : route_cell (count + 1) ≡ 1 + route_cell count = omega arith in e)

  first_written : (x : List ℕ) → with_routes routes (count + 1) (with_cell (route_cell count) route x) ≡ with_routes routes count x
  first_written x = next_routes (with_cell (route_cell count) route x) ∙ sym (these_routes x)

-- one cell
module _ (routes : List Route) (x : List ℕ) (count : ℕ) (route : Route) (more : List Route) (few : length routes ≤ 256) (are : All IsRoute routes)
    (room : twin_size (route_cell (length routes) + 1) ≤ length x) (can : CanGrow routes x count) (is : drop count routes ≡ route ∷ more)
    (y : List ℕ) (cut : Unfinished 33 (first_at (route_cell count)) (first_copy route) x y) where
  abbrev here : ℕ
  here = route_cell count

  there : RouteAt routes count route × (drop (count + 1) routes ≡ more)
  there = drop_at_route routes count route more is

  fits : first_at here + length (first_copy route) ≤ length x
  fits = let low = there.0.0 in omega (arith, copy_sized route, room, low)

  alike : SameOutside (first_at here) (length (first_copy route)) x y
  alike = subst (λ (n : ℕ). SameOutside (first_at here) n x y) (sym (copy_sized route)) cut.same

  same_over : with_routes routes count y ≡ with_routes routes count x
  same_over =
      these_routes routes count route more is y
      ∙ (ap (with_cells (1 + here) more) (written_over (first_at here) (first_copy route) x y fits alike)
      ∙ sym (these_routes routes count route more is x))

  same_whole : part (first_at here) 34 y ≡ first_copy route → with_routes routes (count + 1) y ≡ with_routes routes count x
  same_whole whole =
      let e : y ≡ with_cell here route x =
      is_written (first_at here) (first_copy route) x y fits alike (ap (λ (n : ℕ). part (first_at here) n y) (copy_sized route) ∙ whole) in
      next_routes routes count route more is y
      ∙ (ap (with_cells (1 + here) more) e ∙ sym (these_routes routes count route more is x))

  closed_goes : is_live (part (first_at here) 34 y) ≡ false → Goes routes (with_routes routes count x) y
  closed_goes closed = record {
    count = count;
    can = still routes x count route few are room can there.0 y cut.same closed;
    same = ap (with_number (route_cell (length routes))) same_over;
  }

  pub cell_goes : Goes routes (with_routes routes count x) y
  cell_goes = elim cut.spare [
    | inl closed ↦ closed_goes closed
    | inr (inl as_was) ↦ closed_goes (ap is_live as_was ∙ (can.free count (omega arith) there.0.0).closed)
    | inr (inr whole) ↦ record {
      count = count + 1;
      can = one_more routes x count route few are room can there.0 y cut.same whole;
      same = ap (with_number (route_cell (length routes))) (same_whole whole);
    }
  ]

-- the cells
pub cuts_go : (routes : List Route) (x y : List ℕ) (count cell : ℕ) (rest : List Route) → length routes ≤ 256 → All IsRoute routes
    → twin_size (route_cell (length routes) + 1) ≤ length x → CanGrow routes x count → cell ≡ route_cell count → drop count routes ≡ rest
    → CutsCells cell rest x y → Goes routes (with_routes routes count x) y
cuts_go routes x y count cell rest few are room can cell_is is (within _ route more _ _ cut) =
    cell_goes routes x count route more few are room can is y
    (subst (λ (k : ℕ). Unfinished 33 (first_at k) (first_copy route) x y) cell_is cut)
cuts_go routes x y count cell rest few are room can cell_is is (later _ route more _ _ cuts) =
    let there = drop_at_route routes count route more is in
    let low = there.0.0 in
    let long : length (with_cell cell route x) ≡ length x = (with_cell_same cell route x (omega (arith, cell_is, room, low))).lengths in
    let at_cell : with_cell (route_cell count) route x ≡ with_cell cell route x = ap (λ (k : ℕ). with_cell k route x) (sym cell_is) in
    let can_more : CanGrow routes (with_cell cell route x) (count + 1) =
    subst (λ (w : List ℕ). CanGrow routes w (count + 1)) at_cell (written_can routes x count route few are room can there.0) in
    let then : Goes routes (with_routes routes (count + 1) (with_cell cell route x)) y =
    cuts_go routes (with_cell cell route x) y (count + 1) (1 + cell) more few are (omega (arith, room, long)) can_more (omega (arith, cell_is)) there.1 cuts in
    record {
      count = then.count;
      can = then.can;
      same = then.same
          ∙ ap (with_number (route_cell (length routes)))
          (ap (with_routes routes (count + 1)) (sym at_cell) ∙ first_written routes count route more is x);
    }

drop_all : (routes : List Route) → drop (length routes) routes ≡ []
drop_all [] = refl
drop_all (route ∷ routes) = drop_all routes

-- the number, after all cells
module _ (routes : List Route) (w y : List ℕ) (room : twin_size (route_cell (length routes) + 1) ≤ length w)
    (can : CanGrow routes w (length routes)) (same : SameOutside 10 2 w y) where
  none_lacking : (v : List ℕ) → with_routes routes (length routes) v ≡ v
  none_lacking v = ap (λ (rs : List Route). with_cells (route_cell (length routes)) rs v) (drop_all routes)

  pub number_can : CanGrow routes y (length routes)
  number_can = record {
    head = λ n. but-count n w y (omega (arith, room)) same (can.head n);
    slots = λ cell low. slot_same cell 10 2 w y same (inr (omega arith)) (can.slots cell low);
    have = record {
      few = omega arith;
      held = λ place route low at. held_same (route_cell place) 10 2 route w y same (inr (omega arith)) (can.have.held place route low at);
    };
    free = λ place from low. absurd (omega (arith, from, low));
    ends = erased_same (first_at (route_cell (length routes))) 68 10 2 w y same (inr (omega arith)) can.ends;
  }

  pub number_goes : Goes routes w y
  number_goes = record {
    count = length routes;
    can = number_can;
    same = ap (with_number (route_cell (length routes))) (none_lacking y)
        ∙ written_over 10 (bytes_of 2 (route_cell (length routes))) w y (omega (arith, room, length-bytes_of 2 (route_cell (length routes))))
        (subst (λ (n : ℕ). SameOutside 10 n w y) (sym (length-bytes_of 2 (route_cell (length routes)))) same);
  }

-- ---- all that the power may leave

module _ (routes : List Route) (x : List ℕ) (count : ℕ) (few : length routes ≤ 256) (are : All IsRoute routes)
    (room : twin_size (route_cell (length routes) + 1) ≤ length x) (can : CanGrow routes x count) where
  -- the cells of the routes from one on end where those of all do
  pub rest_ends : route_cell count + length (drop count routes) ≡ route_cell (length routes)
  rest_ends = let most = can.have.few in omega (arith, most, length-drop count routes)

  pub all_within : SameOutside (first_at (route_cell count)) (68 * length (drop count routes)) x (with_routes routes count x)
  all_within = cells_within (route_cell count) (drop count routes) x (omega (arith, room, rest_ends))

  wide : length (with_routes routes count x) ≡ length x
  wide = all_within.lengths

  pub left_goes : (y : List ℕ) → LeftOf routes count x y → Goes routes (with_routes routes count x) y
  left_goes y left = elim left [
    | inl cuts ↦ cuts_go routes x y count (route_cell count) (drop count routes) few are room can refl refl cuts
    | inr number ↦ number_goes routes (with_routes routes count x) y (omega (arith, room, wide))
        (routes_written routes x count few are room can).can number
  ]

  -- outside of the number and of the cells that are written all is as it was
  pub left_part : (y : List ℕ) → LeftOf routes count x y → (at n : ℕ) → 12 ≤ at
      → (at + n ≤ first_at (route_cell count)) ⊎ (first_at (route_cell (length routes)) ≤ at) → part at n y ≡ part at n x
  left_part y left at n behind apart =
      let outside : Apart at n (first_at (route_cell count)) (68 * length (drop count routes)) =
      elim apart [ inl below ↦ inl below | inr above ↦ inr (omega (arith, above, rest_ends)) ] in
      elim left [
        | inl cuts ↦ part-same at n (first_at (route_cell count)) (68 * length (drop count routes)) x y
            (cuts_within (route_cell count) (drop count routes) x y (omega (arith, room, rest_ends)) cuts) outside
        | inr number ↦ part-same at n 10 2 (with_routes routes count x) y number (inr behind)
            ∙ part-same at n (first_at (route_cell count)) (68 * length (drop count routes)) x (with_routes routes count x) all_within outside
      ]

  -- all that changes lies between the number and the end of the cells
  pub left_within : (y : List ℕ) → LeftOf routes count x y → SameOutside 10 (68 * length routes + 974) x y
  left_within y left =
      let most = can.have.few in
      let whole : SameOutside 10 (68 * length routes + 974) x (with_routes routes count x) =
      SameOutside-widen (first_at (route_cell count)) (68 * length (drop count routes)) 10 (68 * length routes + 974) x (with_routes routes count x)
      (omega arith) (omega (arith, rest_ends)) all_within in
      elim left [
        | inl cuts ↦ SameOutside-widen (first_at (route_cell count)) (68 * length (drop count routes)) 10 (68 * length routes + 974) x y
            (omega arith) (omega (arith, rest_ends)) (cuts_within (route_cell count) (drop count routes) x y (omega (arith, room, rest_ends)) cuts)
        | inr number ↦ SameOutside-after 10 (68 * length routes + 974) x (with_routes routes count x) y whole
            (SameOutside-widen 10 2 10 (68 * length routes + 974) (with_routes routes count x) y (omega arith) (omega arith) number)
      ]
