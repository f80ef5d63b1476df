-- What is found of the places from 0 on, one place further
use Rattle.std.proofs.Common.{◌≡◌, ℕ, ◌+◌, ◌&&◌, Bool, true, false, List, [], ◌∷◌, ◌++◌, map, refl, sym, ◌∙◌, ap, append-nil, arith}
use Rattle.std.specs.List.{flat_map, list_all, range_with_len}
use Rattle.std.proofs.lemmas.Grind.{flat_map-append}
use Rattle.std.proofs.lemmas.List.Folds.{flat_map-map, list_all-map, list_all-append}
use Rattle.std.proofs.lemmas.List.FromFn.{map-range_with_len_more}

-- the text of one more place
pub texts_more : (text : ℕ → List ℕ) (n : ℕ) → flat_map text (range_with_len 0 (n + 1)) ≡ flat_map text (range_with_len 0 n) ++ text n
texts_more text n =
    sym (flat_map-map (λ (t : List ℕ). t) text (range_with_len 0 (n + 1)))
    ∙ ap (flat_map (λ (t : List ℕ). t)) (map-range_with_len_more text 0 n n (omega arith))
    ∙ flat_map-append (λ (t : List ℕ). t) (map text (range_with_len 0 n)) (text n ∷ [])
    ∙ ap (λ (t : List ℕ). t ++ (text n ++ [])) (flat_map-map (λ (t : List ℕ). t) text (range_with_len 0 n))
    ∙ ap (λ (t : List ℕ). flat_map text (range_with_len 0 n) ++ t) (append-nil (text n))

and_true : (b : Bool) → (b && true) ≡ b
and_true true = refl
and_true false = refl

-- the test of one more place
pub tests_more : (test : ℕ → Bool) (n : ℕ) → list_all test (range_with_len 0 (n + 1)) ≡ (list_all test (range_with_len 0 n) && test n)
tests_more test n =
    sym (list_all-map (λ (b : Bool). b) test (range_with_len 0 (n + 1)))
    ∙ ap (list_all (λ (b : Bool). b)) (map-range_with_len_more test 0 n n (omega arith))
    ∙ list_all-append (λ (b : Bool). b) (map test (range_with_len 0 n)) (test n ∷ [])
    ∙ ap (λ (b : Bool). b && (test n && true)) (list_all-map (λ (b : Bool). b) test (range_with_len 0 n))
    ∙ ap (λ (b : Bool). list_all test (range_with_len 0 n) && b) (and_true (test n))
