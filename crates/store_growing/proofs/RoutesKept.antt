-- What a growth keeps of a store, done or cut, and that it can go on after a cut
use Rattle.std.proofs.Common.{◌≡◌, ◌⊎◌, ◌∙◌, ℕ, ◌+◌, ◌-◌, ◌*◌, ◌/◌, ◌%◌, ◌<◌, ◌≤◌, ◌^◌, List, length, get_or, sym, ap, subst, inl, inr, arith, Some, None}
use Rattle.std.specs.List.{All}
use Rattle.std.proofs.lemmas.Bool.{cases_lt}
use Rattle.std.proofs.lemmas.List.{get_or-take}
use Rattle.basics.specs.Numbers.{bytes_of}
use Rattle.cell_store.specs.declared.kinds.Version.TheVariants.{One}
use Rattle.cell_store.specs.Layout.{SameOutside, part, header, twin_layout}
use Rattle.cell_store.specs.Store.{HasHeader}
use Rattle.cell_store.specs.Twin.{cell_at, cell_of, twin_size, first_at, second_at}
use Rattle.freshness_routes.specs.declared.routes.Route.{Route}
use Rattle.freshness_routes.specs.Config.{IsRoute}
use Rattle.store_plan.specs.Growing.{with_number}
use Rattle.store_growing.specs.StoreHeaders.{cells_counted, HasVersionTwo}
use Rattle.store_growing.specs.RouteCells.{route_cell, RouteAt, first_bound, HoldsRoute, CanGrow}
use Rattle.store_growing.specs.GrowingStores.{with_routes, GrownTo, GrownInPart}
use Rattle.store_growing.proofs.OneCell.{cell_same, free_is_none, version_same, with_number_same}
use Rattle.store_growing.proofs.CellsWritten.{routes_written}
use Rattle.store_growing.proofs.GoesOn.{left_goes, left_part, left_within, all_within, number_can}
use Rattle.store_growing.proofs.FirstCauses.{count_once}

abbrev Fits : List Route → List ℕ → Type 0
Fits routes x = twin_size (route_cell (length routes) + 1) ≤ length x

-- the number of a header is the one that is counted
number_of_head : (n : ℕ) (head : List ℕ) → n < 2 ^ 16 → head ≡ header (twin_layout One) n → 256 * get_or head 10 0 + get_or head 11 0 ≡ n
unfolding header bytes_of
number_of_head n head small e =
    let high : get_or head 10 0 ≡ n / 256 ^ 1 % 256 = ap (λ l. get_or l 10 0) e in
    let low : get_or head 11 0 ≡ n / 256 ^ 0 % 256 = ap (λ l. get_or l 11 0) e in
    omega arith

pub counted_of_head : (n : ℕ) (x : List ℕ) → n < 2 ^ 16 → HasHeader (twin_layout One) n x → cells_counted x ≡ n
counted_of_head n x small head =
    let high : get_or (part 0 32 x) 10 0 ≡ get_or x 10 0 = get_or-take 32 x 10 0 (omega arith) in
    let low : get_or (part 0 32 x) 11 0 ≡ get_or x 11 0 = get_or-take 32 x 11 0 (omega arith) in
    omega (arith, high, low, number_of_head n (part 0 32 x) small head)

-- a growth that is done leaves what the power may leave that goes at its very end
pub done_in_part : (routes : List Route) (x z : List ℕ) → length routes ≤ 256 → All IsRoute routes → Fits routes x → GrownTo routes x z → GrownInPart routes x z
done_in_part routes x z few are room grown =
    let w : List ℕ = with_routes routes grown.count x in
    let wide : length w ≡ length x = (all_within routes x grown.count few are room grown.could).lengths in
    record {
      version = grown.version;
      count = grown.count;
      could = grown.could;
      left = inr (subst (λ (v : List ℕ). SameOutside 10 2 w v) (sym grown.is)
          (with_number_same (route_cell (length routes)) w (omega (arith, room, wide))));
    }

-- ---- cells

module _ (routes : List Route) (x y : List ℕ) (few : length routes ≤ 256) (are : All IsRoute routes) (room : Fits routes x)
    (cut : GrownInPart routes x y) where
  -- the bytes of a cell that is before those that are written, or after them
  pub pair_stays : (cell : ℕ) → (cell < route_cell cut.count) ⊎ (route_cell (length routes) ≤ cell) → part (first_at cell) 68 y ≡ part (first_at cell) 68 x
  pair_stays cell apart =
      left_part routes x cut.count few are room cut.could y cut.left (first_at cell) 68 (omega arith)
      (elim apart [ inl low ↦ inl (omega (arith, low)) | inr high ↦ inr (omega (arith, high)) ])

  pub cell_stays : (cell : ℕ) → (cell < route_cell cut.count) ⊎ (route_cell (length routes) ≤ cell) → cell_at y cell ≡ cell_at x cell
  unfolding cell_at
  cell_stays cell apart =
      let first : part (first_at cell) 34 y ≡ part (first_at cell) 34 x =
      left_part routes x cut.count few are room cut.could y cut.left (first_at cell) 34 (omega arith)
      (elim apart [ inl low ↦ inl (omega (arith, low)) | inr high ↦ inr (omega (arith, high)) ]) in
      let second : part (second_at cell) 34 y ≡ part (second_at cell) 34 x =
      left_part routes x cut.count few are room cut.could y cut.left (second_at cell) 34 (omega arith)
      (elim apart [ inl low ↦ inl (omega (arith, low)) | inr high ↦ inr (omega (arith, high)) ]) in
      ap (λ (c : List ℕ). cell_of c (part (second_at cell) 34 y)) first ∙ ap (λ (c : List ℕ). cell_of (part (first_at cell) 34 x) c) second

  -- a cell that is counted isn't among those that are written
  counted_apart : (cell : ℕ) → cell < cells_counted x → (cell < route_cell cut.count) ⊎ (route_cell (length routes) ≤ cell)
  counted_apart cell counted = elim (cases_lt cell (route_cell cut.count)) [
    | inl low ↦ inl low
    | inr from ↦ elim (cases_lt cell (route_cell (length routes))) [
      | inl below ↦ (let place : ℕ = cell - 14 in
          let e : route_cell place ≡ cell = omega (arith, from) in
          let f = cut.could.free place (omega (arith, from)) (omega (arith, from, below)) in
          let v = f.uncounted in
          absurd (omega (arith, v, e, counted)))
      | inr high ↦ inr high
    ]
  ]

  pub counted_stays : (cell : ℕ) → cell < cells_counted x → part (first_at cell) 68 y ≡ part (first_at cell) 68 x
  counted_stays cell counted = pair_stays cell (counted_apart cell counted)

  pub counted_cell : (count cell : ℕ) → count < 2 ^ 16 → HasHeader (twin_layout One) count x → cell < count → cell_at y cell ≡ cell_at x cell
  counted_cell count cell small head low =
      cell_stays cell (counted_apart cell (let e = counted_of_head count x small head in omega (arith, low, e)))

  -- what a cell holds it holds
  pub held_stays : (cell : ℕ) (bytes : List ℕ) → cell_at x cell ≡ Some bytes → cell_at y cell ≡ Some bytes
  held_stays cell bytes held = elim (cases_lt cell (route_cell cut.count)) [
    | inl low ↦ cell_stays cell (inl low) ∙ held
    | inr from ↦ elim (cases_lt cell (route_cell (length routes))) [
      | inl below ↦ (let place : ℕ = cell - 14 in
          let e : route_cell place ≡ cell = omega (arith, from) in
          let none : cell_at x (route_cell place) ≡ None =
          free_is_none (route_cell place) x (cut.could.free place (omega (arith, from)) (omega (arith, from, below))) in
          let some : cell_at x (route_cell place) ≡ Some bytes = ap (cell_at x) e ∙ held in
          absurd (cc))
      | inr high ↦ cell_stays cell (inr high) ∙ held
    ]
  ]

  pub route_stays : (cell : ℕ) (route : Route) → HoldsRoute x cell route → HoldsRoute y cell route
  route_stays cell route held = (held.0, held.1, held_stays cell held.0 held.2, held.3)

  version_stays : ¬ HasVersionTwo y
  version_stays two =
      cut.version (
        two.0,
        two.1,
        two.2,
        version_same two.0 two.1 10 (68 * length routes + 974) x y (omega (arith, few))
            (left_within routes x cut.count few are room cut.could y cut.left) two.3,
      )

  pub can_grow_again : (¬ HasVersionTwo y) × ((count : ℕ) × CanGrow routes y count)
  can_grow_again =
      let goes = left_goes routes x cut.count few are room cut.could y cut.left in
      (version_stays, (goes.count, goes.can))

  -- and to the same end
  pub ends_the_same : (z : List ℕ) → GrownTo routes x z → GrownTo routes y z
  ends_the_same z grown =
      let goes = left_goes routes x cut.count few are room cut.could y cut.left in
      let once : grown.count ≡ cut.count = count_once routes x grown.count cut.count grown.could cut.could in
      record {
        version = version_stays;
        count = goes.count;
        could = goes.can;
        is = grown.is
            ∙ (ap (λ (n : ℕ). with_number (route_cell (length routes)) (with_routes routes n x)) once ∙ sym goes.same);
      }

-- ---- after all of it

pub record Ended (routes : List Route) (x z : List ℕ) (count : ℕ) : Type 0 where
  pub can : CanGrow routes z (length routes)
  pub head : HasHeader (twin_layout One) (route_cell (length routes)) z
  pub new : (place : ℕ) (route : Route) → count ≤ place → RouteAt routes place route → cell_at z (route_cell place) ≡ Some (first_bound route)

pub ended : (routes : List Route) (x z : List ℕ) → length routes ≤ 256 → All IsRoute routes → Fits routes x → (grown : GrownTo routes x z)
    → Ended routes x z grown.count
ended routes x z few are room grown =
    let w : List ℕ = with_routes routes grown.count x in
    let wide : length w ≡ length x = (all_within routes x grown.count few are room grown.could).lengths in
    let all = routes_written routes x grown.count few are room grown.could in
    let same : SameOutside 10 2 w z = subst (λ (v : List ℕ). SameOutside 10 2 w v) (sym grown.is)
    (with_number_same (route_cell (length routes)) w (omega (arith, room, wide))) in
    record {
      can = number_can routes w z (omega (arith, room, wide)) all.can same;
      head = subst (λ (v : List ℕ). HasHeader (twin_layout One) (route_cell (length routes)) v) (sym grown.is)
          (all.can.head (route_cell (length routes)));
      new = λ place route from at.
          cell_same (route_cell place) 10 2 w z same (inr (omega arith)) ∙ all.new place route from at;
    }

-- ---- the laws

abbrev GrownOrCut : List Route → List ℕ → List ℕ → Type 0
GrownOrCut routes x y = GrownTo routes x y ⊎ GrownInPart routes x y

in_part : (routes : List Route) (x y : List ℕ) → length routes ≤ 256 → All IsRoute routes → Fits routes x → GrownOrCut routes x y → GrownInPart routes x y
in_part routes x y few are room (inl grown) = done_in_part routes x y few are room grown
in_part routes x y few are room (inr cut) = cut

pub counted_law : (routes : List Route) (x y : List ℕ) → length routes ≤ 256 → All IsRoute routes → Fits routes x → GrownOrCut routes x y
    → (cell : ℕ) → cell < cells_counted x → part (first_at cell) 68 y ≡ part (first_at cell) 68 x
counted_law routes x y few are room left = counted_stays routes x y few are room (in_part routes x y few are room left)

pub store_law : (routes : List Route) (x y : List ℕ) → length routes ≤ 256 → All IsRoute routes → Fits routes x → GrownOrCut routes x y
    → (count cell : ℕ) → count < 2 ^ 16 → HasHeader (twin_layout One) count x → cell < count → cell_at y cell ≡ cell_at x cell
store_law routes x y few are room left = counted_cell routes x y few are room (in_part routes x y few are room left)

pub held_law : (routes : List Route) (x y : List ℕ) → length routes ≤ 256 → All IsRoute routes → Fits routes x → GrownOrCut routes x y
    → (cell : ℕ) (bytes : List ℕ) → cell_at x cell ≡ Some bytes → cell_at y cell ≡ Some bytes
held_law routes x y few are room left = held_stays routes x y few are room (in_part routes x y few are room left)

pub has_new_ones : (routes : List Route) (x z : List ℕ) → length routes ≤ 256 → All IsRoute routes → Fits routes x → (grown : GrownTo routes x z)
    → CanGrow routes z (length routes) × HasHeader (twin_layout One) (route_cell (length routes)) z
    × ((cell : ℕ) → cell < route_cell grown.count → cell_at z cell ≡ cell_at x cell)
    × ((place : ℕ) (route : Route) → grown.count ≤ place → RouteAt routes place route → cell_at z (route_cell place) ≡ Some (first_bound route))
unfolding done_in_part
has_new_ones routes x z few are room grown =
    let end = ended routes x z few are room grown in (
      end.can,
      end.head,
      λ cell low. cell_stays routes x z few are room (done_in_part routes x z few are room grown) cell (inl low),
      end.new,
    )
