-- A node has at most 256 routes, so at most 256 pairs are good
use Rattle.std.specs.Prelude.{◌≡◌, ◌≢◌, ℕ, zero, suc, ◌<◌, ◌≤◌, ◌||◌, ◌⊎◌, Bool, true, false, List, [], ◌∷◌, ◌++◌, length, get_or, eqb}
use Rattle.std.specs.List.{list_any, IsDistinct}
use Rattle.std.proofs.Common.{refl, sym, ◌∙◌, ap, subst, arith, inl, inr, length-append, true≢false}
use Rattle.std.proofs.lemmas.Bool.{false_from_ne_true}
use Rattle.std.proofs.lemmas.Cmp.{nat_eq_equiv}
use Rattle.std.proofs.lemmas.Bool.Decides.{eqb_tells}
use Rattle.std.proofs.lemmas.List.{get_or-take, length-take-le}
use Rattle.std.proofs.lemmas.List.Folds.{list_any-append}
use Rattle.std.proofs.lemmas.Map.Keys.{IsDistinct-push}
use Rattle.std.proofs.lemmas.Map.Steps.{length-le_from_distinct_below}
use Rattle.freshness_routes.specs.declared.routes.Direction.TheVariants.{Receives}
use Rattle.freshness_routes.specs.declared.routes.Route.{Route}
use Rattle.bus_machine.specs.Node.{no_route, place_in}
use Rattle.bus_laws.proofs.CallerLemmas.{place_is}
use Rattle.secoc_gateway.specs.Pairs.{pair_in, IsGoodAt}

-- the place of the route under which what a pair's first names arrives
abbrev place_at : List Route → List (ℕ × ℕ) → ℕ → ℕ
place_at routes pairs k = place_in routes (pair_in pairs k).0 Receives

-- those of the first n pairs
abbrev places : List Route → List (ℕ × ℕ) → ℕ → List ℕ
places routes pairs zero = []
places routes pairs (suc n) = places routes pairs n ++ place_at routes pairs n ∷ []

length_places : (routes : List Route) (pairs : List (ℕ × ℕ)) (n : ℕ) → length (places routes pairs n) ≡ n
length_places routes pairs zero = refl
length_places routes pairs (suc n) = omega (arith, length-append (places routes pairs n) (place_at routes pairs n ∷ []), length_places routes pairs n)

-- one of them is that of some pair
pub record IsOfPair (routes : List Route) (pairs : List (ℕ × ℕ)) (n q : ℕ) : Type 0 where
  pub pair : ℕ
  pub below : pair < n
  pub place_is : q ≡ place_at routes pairs pair

one_of : (a b : Bool) → (a || b) ≡ true → (a ≡ true) ⊎ (b ≡ true)
one_of true b e = inl refl
one_of false b e = inr e

last_one : (q x : ℕ) → list_any (eqb q) (x ∷ []) ≡ true → q ≡ x
last_one q x e = elim (eqb_tells q x) [
  | inl same ↦ same.1
  | inr other ↦ absurd (elim (one_of (eqb q x) false e) [ inl is ↦ true≢false (sym is ∙ other.0) | inr none ↦ true≢false (sym none) ])
]

in_places : (routes : List Route) (pairs : List (ℕ × ℕ)) (n q : ℕ) → list_any (eqb q) (places routes pairs n) ≡ true → IsOfPair routes pairs n q
in_places routes pairs zero q e = absurd (true≢false (sym e))
in_places routes pairs (suc n) q e =
    elim (one_of _ _ (sym (list_any-append (eqb q) (places routes pairs n) (place_at routes pairs n ∷ [])) ∙ e)) [
      | inl earlier ↦ let p = in_places routes pairs n q earlier in record { pair = p.pair; below = omega (arith, p.below); place_is = p.place_is }
      | inr here ↦ record { pair = n; below = omega arith; place_is = last_one q (place_at routes pairs n) here }
    ]

-- of two good pairs the first ones arrive by two routes
own_places : (routes : List Route) (pairs : List (ℕ × ℕ)) (j k : ℕ) → j < k → k < length pairs → IsGoodAt routes pairs j → IsGoodAt routes pairs k → place_at routes pairs j ≢ place_at routes pairs k
own_places routes pairs j k before inside first later same =
    let a = place_is routes (pair_in pairs j).0 Receives first.receives in
    let b = place_is routes (pair_in pairs k).0 Receives later.receives in
    let ids : (pair_in pairs j).0 ≡ (pair_in pairs k).0 = sym a.id_is ∙ ap (λ i. (get_or routes i no_route).id) same ∙ b.id_is in
    (later.is_new j (0, 0) (omega (arith, length-take-le k pairs (omega arith)))).0
    (ap (λ (p : ℕ × ℕ). p.0) (get_or-take k pairs j (0, 0) before) ∙ ids)

distinct_places : (routes : List Route) (pairs : List (ℕ × ℕ)) (n : ℕ) → n ≤ length pairs → ((k : ℕ) → k < n → IsGoodAt routes pairs k) → IsDistinct eqb (places routes pairs n)
unfolding IsDistinct
distinct_places routes pairs zero inside good = tt
distinct_places routes pairs (suc n) inside good =
    IsDistinct-push nat_eq_equiv (places routes pairs n) (place_at routes pairs n)
    (distinct_places routes pairs n (omega arith) (λ k below. good k (omega arith)))
    (false_from_ne_true _ (λ e.
    let p = in_places routes pairs n (place_at routes pairs n) e in
    own_places routes pairs p.pair n p.below (omega arith) (good p.pair (omega (arith, p.below))) (good n (omega arith)) (sym p.place_is)))

-- so many first pairs are at most as many as the routes
pub few_good : (routes : List Route) (pairs : List (ℕ × ℕ)) (n : ℕ) → length routes ≤ 256 → n ≤ length pairs → ((k : ℕ) → k < n → IsGoodAt routes pairs k) → n ≤ 256
few_good routes pairs n few inside good =
    let most = length-le_from_distinct_below (places routes pairs n) (length routes) (distinct_places routes pairs n inside good)
    (λ q e. let p = in_places routes pairs n q e in subst (λ i. i < length routes) (sym p.place_is) (good p.pair p.below).receives) in
    omega (arith, most, length_places routes pairs n, few)
