-- The first Data ID that is sent again: a list's step, its parts, and what it means for the whole list
use Rattle.std.proofs.Common.{◌≡◌, ◌≢◌, ℕ, ◌+◌, ◌<◌, Bool, true, false, cond, Option, Some, None, List, [], ◌∷◌, ◌++◌, length, get_or, AllPairs, refl, sym, ap, subst, ◌∙◌, arith}
use Rattle.std.specs.Prelude.{◌==◌, ◌&&◌}
use Rattle.std.specs.List.{list_any, Any}
use Rattle.std.specs.Option.{is_some}
use Rattle.std.proofs.lemmas.Bool.{eqb-true, eq-eqb, both_ways, false≢true}
use Rattle.std.proofs.lemmas.List.{append_assoc, length-append, append-nil, get_or_default}
use Rattle.std.proofs.lemmas.List.Folds.{Any-from_list_any, list_any_at}
use Rattle.std.proofs.lemmas.List.Quantifiers.{all_pairs_push}
use Rattle.std.proofs.Math.ListN.{get_or-append}
use Rattle.std.proofs.lemmas.List.{get_or-append-add}
use Rattle.bus_config.specs.Buses.{again_after}

abbrev pub stands_in : ℕ → List ℕ → Bool
stands_in id ids = list_any (λ one. one == id) ids

abbrev pub Differ : List ℕ → Type 0
Differ ids = AllPairs (λ i j. i ≢ j) ids

pub some_not_none : (id : ℕ) → Some id ≡ None → ⊥
some_not_none id e = cc

none_not_some : (id : ℕ) → None ≡ Some id → ⊥
none_not_some id e = cc

-- ---- one more

pub again_here : (before : List ℕ) (id : ℕ) (ids : List ℕ) → stands_in id before ≡ true → again_after before (id ∷ ids) ≡ Some id
again_here before id ids found = ap (λ b. cond b (Some id) (again_after (before ++ id ∷ []) ids)) found

pub again_on : (before : List ℕ) (id : ℕ) (ids : List ℕ) → stands_in id before ≡ false → again_after before (id ∷ ids) ≡ again_after (before ++ id ∷ []) ids
again_on before id ids new = ap (λ b. cond b (Some id) (again_after (before ++ id ∷ []) ids)) new

-- ---- a part, and what is after it

pub again_in_part : (before xs ys : List ℕ) (id : ℕ) → again_after before xs ≡ Some id → again_after before (xs ++ ys) ≡ Some id
again_in_part before [] ys id e = absurd (none_not_some id e)
again_in_part before (x ∷ xs) ys id e = by_test (stands_in x before) (again_in_part (before ++ x ∷ []) xs ys id) e
  where
    by_test : (b : Bool) → (again_after (before ++ x ∷ []) xs ≡ Some id → again_after (before ++ x ∷ []) (xs ++ ys) ≡ Some id)
        → cond b (Some x) (again_after (before ++ x ∷ []) xs) ≡ Some id → cond b (Some x) (again_after (before ++ x ∷ []) (xs ++ ys)) ≡ Some id
    by_test true more e = e
    by_test false more e = more e

pub again_behind : (before xs ys : List ℕ) → again_after before xs ≡ None → again_after before (xs ++ ys) ≡ again_after (before ++ xs) ys
again_behind before [] ys e = ap (λ (l : List ℕ). again_after l ys) (sym (append-nil before))
again_behind before (x ∷ xs) ys e = by_test (stands_in x before) (again_behind (before ++ x ∷ []) xs ys) e
  where
    by_test : (b : Bool) → (again_after (before ++ x ∷ []) xs ≡ None → again_after (before ++ x ∷ []) (xs ++ ys) ≡ again_after ((before ++ x ∷ []) ++ xs) ys)
        → cond b (Some x) (again_after (before ++ x ∷ []) xs) ≡ None → cond b (Some x) (again_after (before ++ x ∷ []) (xs ++ ys)) ≡ again_after (before ++ x ∷ xs) ys
    by_test true more e = cc
    by_test false more e = more e ∙ ap (λ (l : List ℕ). again_after l ys) (append_assoc before (x ∷ []) xs)

-- ---- the whole list

-- what stands nowhere in a list differs from each of it
new_differs : (before : List ℕ) (id : ℕ) → stands_in id before ≡ false → (k : ℕ) (d : ℕ) → k < length before → get_or before k d ≢ id
new_differs before id new k d inside same =
    both_ways _ new (list_any_at (λ one. one == id) before k d inside (eq-eqb _ _ same))

pub differ_from_none : (before ids : List ℕ) → Differ before → again_after before ids ≡ None → Differ (before ++ ids)
differ_from_none before [] differ e = subst Differ (sym (append-nil before)) differ
differ_from_none before (id ∷ ids) differ e = by_test (stands_in id before) refl (differ_from_none (before ++ id ∷ []) ids) e
  where
    by_test : (b : Bool) → stands_in id before ≡ b → (Differ (before ++ id ∷ []) → again_after (before ++ id ∷ []) ids ≡ None → Differ ((before ++ id ∷ []) ++ ids))
        → cond b (Some id) (again_after (before ++ id ∷ []) ids) ≡ None → Differ (before ++ id ∷ ids)
    by_test true t more e = absurd (some_not_none id e)
    by_test false new more e =
        subst Differ (append_assoc before (id ∷ []) ids)
        (more (all_pairs_push (λ i j. i ≢ j) before id differ (new_differs before id new)) e)

-- two parts of a list whose elements differ have none in common
pub parts_apart : (xs ys : List ℕ) (id : ℕ) → Differ (xs ++ ys) → stands_in id xs ≡ true → stands_in id ys ≡ true → ⊥
parts_apart xs ys id differ in_xs in_ys =
    apart (Any-from_list_any (λ one. one == id) xs in_xs) (Any-from_list_any (λ one. one == id) ys in_ys)
  where
    apart : Any (λ one. (one == id) ≡ true) xs → Any (λ one. (one == id) ≡ true) ys → ⊥
    apart (k, x, k_in, at_k, x_is) (l, y, l_in, at_l, y_is) =
        differ k (length xs + l) x (omega (arith, k_in)) (omega (arith, l_in, length-append xs ys))
        (get_or-append xs ys x k k_in ∙ at_k ∙ eqb-true x id x_is ∙ sym (eqb-true y id y_is) ∙ sym at_l ∙ again_default ∙ sym (get_or-append-add xs ys l x))
      where
        again_default : get_or ys l y ≡ get_or ys l x
        again_default = get_or_default ys l y x l_in

pub none_from_differ : (before ids : List ℕ) → Differ (before ++ ids) → again_after before ids ≡ None
none_from_differ before [] differ = refl
none_from_differ before (id ∷ ids) differ =
    by_test (stands_in id before) refl (none_from_differ (before ++ id ∷ []) ids (subst Differ (sym (append_assoc before (id ∷ []) ids)) differ))
  where
    by_test : (b : Bool) → stands_in id before ≡ b → again_after (before ++ id ∷ []) ids ≡ None → cond b (Some id) (again_after (before ++ id ∷ []) ids) ≡ None
    by_test true found more = absurd (parts_apart before (id ∷ ids) id differ found (list_any_at (λ one. one == id) (id ∷ ids) 0 id (omega arith) (eq-eqb id id refl)))
    by_test false new more = more

-- ---- a step over a route or a node, between what is before it and what is after

abbrev pub id_or_none : Bool → ℕ → List ℕ
id_or_none b id = cond b (id ∷ []) []

-- a route that sends nothing, or a Data ID that is new
pub again_step : (before mine rest : List ℕ) (b : Bool) (id : ℕ) → (b && stands_in id before) ≡ false
    → mine ≡ id_or_none b id → again_after before (mine ++ rest) ≡ again_after (before ++ mine) rest
again_step before mine rest true id new e = subst (λ (l : List ℕ). again_after before (l ++ rest) ≡ again_after (before ++ l) rest) (sym e) (again_on before id rest new)
again_step before mine rest false id new e = subst (λ (l : List ℕ). again_after before (l ++ rest) ≡ again_after (before ++ l) rest) (sym e) (ap (λ (l : List ℕ). again_after l rest) (sym (append-nil before)))

-- a route that sends a Data ID again
pub again_found : (before mine rest : List ℕ) (b : Bool) (id : ℕ) → (b && stands_in id before) ≡ true
    → mine ≡ id_or_none b id → again_after before (mine ++ rest) ≡ Some id
again_found before mine rest true id found e = subst (λ (l : List ℕ). again_after before (l ++ rest) ≡ Some id) (sym e) (again_here before id rest found)
again_found before mine rest false id found e = absurd (false≢true found)

-- ---- what a look answers

pub none_when : (o : Option ℕ) → is_some o ≡ false → o ≡ None
none_when None e = refl
none_when (Some id) e = absurd (false≢true (sym e))

pub some_when : (o : Option ℕ) → is_some o ≡ true → (id : ℕ) × (o ≡ Some id)
some_when None e = absurd (false≢true e)
some_when (Some id) e = (id, refl)
