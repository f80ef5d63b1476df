-- What is found among numbers in a row, one number further
use Rattle.std.proofs.Common.{◌≡◌, ℕ, zero, suc, ◌+◌, ◌-◌, ◌<◌, ◌≤◌, Bool, true, false, cond, List, [], ◌∷◌, ◌++◌, length, get_or, drop, refl, sym, ◌∙◌, ap, arith, length-append}
use Rattle.std.specs.Prelude.{filter, find, if◌then◌else◌, Option, None, Some}
use Rattle.std.specs.List.{range_with_len}
use Rattle.std.proofs.lemmas.List.{map-id, at_drop_all}
use Rattle.std.proofs.Math.Seq.{drop-cons}
use Rattle.std.proofs.lemmas.List.FromFn.{map-range_with_len_more}
use Rattle.std.proofs.lemmas.List.Folds.{find-append}
use Rattle.std.proofs.lemmas.List.Elements.{filter-append}
use Rattle.explain_commands.specs.declared.trials.Comparison.TheVariants as compared
use Rattle.explain_commands.specs.declared.kinds.ReasonKind.{ReasonKind}
use Rattle.explain_commands.specs.Trials.{agrees, is_computed}
use Rattle.explain_commands.specs.Reasons.{Failing, trial_of, number_of_tries, first_agreeing, computed_in, looked_at, tries_for, reason_at, reason_or, last_reason, first_reason, tries_behind, all_tries}

-- one more number
pub range_more : (a n j : ℕ) → a + n ≡ j → range_with_len a (n + 1) ≡ range_with_len a n ++ j ∷ []
range_more a n j is =
    sym (map-id (range_with_len a (n + 1))) ∙ map-range_with_len_more (λ (k : ℕ). k) a n j is
    ∙ ap (λ (ks : List ℕ). ks ++ j ∷ []) (map-id (range_with_len a n))

-- nothing is found one further on
pub none_more : (test : ℕ → Bool) (a n j : ℕ) → a + n ≡ j → find test (range_with_len a n) ≡ None → test j ≡ false
    → find test (range_with_len a (n + 1)) ≡ None
none_more test a n j is none fails =
    ap (find test) (range_more a n j is) ∙ find-append test (range_with_len a n) (j ∷ []) ∙ rw (none, fails) refl

-- the first is found, whatever stands behind it
pub found_first : (test : ℕ → Bool) (a n j : ℕ) → a + n ≡ j → find test (range_with_len a n) ≡ None → test j ≡ true → (rest : ℕ)
    → find test (range_with_len a (n + 1 + rest)) ≡ Some j
found_first test a n j is none passes zero =
    ap (λ (k : ℕ). find test (range_with_len a k)) (let e : n + 1 + 0 ≡ n + 1 = omega arith in e)
    ∙ ap (find test) (range_more a n j is) ∙ find-append test (range_with_len a n) (j ∷ []) ∙ rw (none, passes) refl
found_first test a n j is none passes (suc rest) =
    ap (λ (k : ℕ). find test (range_with_len a k)) (let e : n + 1 + suc rest ≡ (n + 1 + rest) + 1 = omega arith in e)
    ∙ ap (find test) (range_more a (n + 1 + rest) (a + (n + 1 + rest)) refl)
    ∙ find-append test (range_with_len a (n + 1 + rest)) ((a + (n + 1 + rest)) ∷ [])
    ∙ rw (found_first test a n j is none passes rest) refl

pub found_within : (test : ℕ → Bool) (a n j m : ℕ) → a + n ≡ j → n < m → find test (range_with_len a n) ≡ None → test j ≡ true
    → find test (range_with_len a m) ≡ Some j
found_within test a n j m is within none passes =
    ap (λ (k : ℕ). find test (range_with_len a k)) (let e : m ≡ n + 1 + (m - n - 1) = omega arith in e)
    ∙ found_first test a n j is none passes (m - n - 1)

-- what is found is one of the numbers
pub found_below : (test : ℕ → Bool) (a n j : ℕ) → find test (range_with_len a n) ≡ Some j → j < a + n
found_below test a zero j is = absurd (cc is)
found_below test a (suc n) j is =
    elim (test a) as (λ b. cond b (Some a) (find test (range_with_len (a + 1) n)) ≡ Some j → j < a + suc n) [
      | true ↦ λ e. let same : a ≡ j = cc in omega (arith, same)
      | false ↦ λ e. omega (arith, found_below test (a + 1) n j e)
    ]
    is

-- what a number that is tried by itself comes to
pub number_passes : (b : Bool) (v x : ℕ) → Some x ≡ (if b then Some v else None) → (v ≡ x) × (b ≡ true)
number_passes true v x is = (cc, refl)
number_passes false v x is = absurd (cc is)

pub number_fails : (b : Bool) (v : ℕ) → None ≡ (if b then Some v else None) → b ≡ false
number_fails true v is = absurd (cc is)
number_fails false v is = refl

-- ---- the tries of a kind

module _ (f : Failing) (k : ReasonKind) (n : ℕ) where
  abbrev AllFail : Type 0
  AllFail = find (λ i. agrees (trial_of f k i)) (range_with_len 0 n) ≡ None

  -- one more try
  computed_more : computed_in f k (n + 1) ≡ computed_in f k n + length (filter (λ i. is_computed (trial_of f k i)) (n ∷ []))
  computed_more =
      ap (λ (ks : List ℕ). length (filter (λ i. is_computed (trial_of f k i)) ks)) (range_more 0 n n (omega arith))
      ∙ ap length (filter-append (λ i. is_computed (trial_of f k i)) (range_with_len 0 n) (n ∷ []))
      ∙ length-append (filter (λ i. is_computed (trial_of f k i)) (range_with_len 0 n)) (filter (λ i. is_computed (trial_of f k i)) (n ∷ []))

  pub computed_skipped : trial_of f k n ≡ compared.Skipped → computed_in f k (n + 1) ≡ computed_in f k n
  computed_skipped is = computed_more ∙ rw is (omega arith)

  pub computed_differs : trial_of f k n ≡ compared.Differs → computed_in f k (n + 1) ≡ computed_in f k n + 1
  computed_differs is = computed_more ∙ rw is refl

  computed_agrees : trial_of f k n ≡ compared.Agrees → computed_in f k (n + 1) ≡ computed_in f k n + 1
  computed_agrees is = computed_more ∙ rw is refl

  pub fails_skipped : AllFail → trial_of f k n ≡ compared.Skipped → find (λ i. agrees (trial_of f k i)) (range_with_len 0 (n + 1)) ≡ None
  fails_skipped none is = none_more (λ i. agrees (trial_of f k i)) 0 n n (omega arith) none (ap agrees is)

  pub fails_differs : AllFail → trial_of f k n ≡ compared.Differs → find (λ i. agrees (trial_of f k i)) (range_with_len 0 (n + 1)) ≡ None
  fails_differs none is = none_more (λ i. agrees (trial_of f k i)) 0 n n (omega arith) none (ap agrees is)

  -- this try is the first that agrees
  pub agrees_here : n < number_of_tries f k → AllFail → trial_of f k n ≡ compared.Agrees → first_agreeing f k ≡ Some n
  agrees_here within none is = found_within (λ i. agrees (trial_of f k i)) 0 n n (number_of_tries f k) (omega arith) within none (ap agrees is)

  pub tries_here : n < number_of_tries f k → AllFail → trial_of f k n ≡ compared.Agrees → tries_for f k ≡ computed_in f k n + 1
  tries_here within none is =
      ap (λ (o : Option ℕ). computed_in f k (looked_at o (number_of_tries f k))) (agrees_here within none is) ∙ computed_agrees is

  -- all tries were looked at
  pub tries_all : n ≡ number_of_tries f k → AllFail → tries_for f k ≡ computed_in f k n
  tries_all is none =
      let last : first_agreeing f k ≡ None = ap (λ (m : ℕ). find (λ i. agrees (trial_of f k i)) (range_with_len 0 m)) (sym is) ∙ none in
      ap (λ (o : Option ℕ). computed_in f k (looked_at o (number_of_tries f k))) last ∙ ap (computed_in f k) (sym is)

-- the try that agrees is one of the tries
pub agreeing_within : (f : Failing) (k : ReasonKind) (at : ℕ) → first_agreeing f k ≡ Some at → at < number_of_tries f k
agreeing_within f k at is =
    let below : at < 0 + number_of_tries f k = found_below (λ i. agrees (trial_of f k i)) 0 (number_of_tries f k) at is in omega (arith, below)

-- ---- the kinds

pub tries_on : (all tries found left here rest : ℕ) → all ≡ tries + left → left ≡ here + rest → found ≡ here → all ≡ (tries + found) + rest
tries_on all tries found left here rest a b c = omega (arith, a, b, c)

module _ (f : Failing) (ks : List ReasonKind) (i : ℕ) (d : ReasonKind) (inside : i < length ks) where
  drops : drop i ks ≡ get_or ks i d ∷ drop (i + 1) ks
  drops = drop-cons ks i d inside ∙ ap (λ (n : ℕ). get_or ks i d ∷ drop n ks) (let e : suc i ≡ i + 1 = omega arith in e)

  -- a try of this kind agrees
  pub reason_found : (at : ℕ) → first_agreeing f (get_or ks i d) ≡ Some at → first_reason f (drop i ks) ≡ reason_at f (get_or ks i d) at
  unfolding first_reason
  reason_found at is = ap (first_reason f) drops ∙ ap (λ (o : Option ℕ). reason_or f (get_or ks i d) o (first_reason f (drop (i + 1) ks))) is

  pub tries_found : (at : ℕ) → first_agreeing f (get_or ks i d) ≡ Some at → all_tries f (drop i ks) ≡ tries_for f (get_or ks i d)
  unfolding all_tries
  tries_found at is =
      ap (all_tries f) drops
      ∙ ap (λ (o : Option ℕ). tries_for f (get_or ks i d) + tries_behind o (all_tries f (drop (i + 1) ks))) is ∙ omega arith

  -- none does
  pub reason_next : first_agreeing f (get_or ks i d) ≡ None → first_reason f (drop i ks) ≡ first_reason f (drop (i + 1) ks)
  unfolding first_reason
  reason_next is = ap (first_reason f) drops ∙ ap (λ (o : Option ℕ). reason_or f (get_or ks i d) o (first_reason f (drop (i + 1) ks))) is

  pub tries_next : first_agreeing f (get_or ks i d) ≡ None → all_tries f (drop i ks) ≡ tries_for f (get_or ks i d) + all_tries f (drop (i + 1) ks)
  unfolding all_tries
  tries_next is =
      ap (all_tries f) drops
      ∙ ap (λ (o : Option ℕ). tries_for f (get_or ks i d) + tries_behind o (all_tries f (drop (i + 1) ks))) is

-- no kind is left
pub reason_none : (f : Failing) (ks : List ReasonKind) (i : ℕ) → length ks ≤ i → first_reason f (drop i ks) ≡ last_reason f
unfolding first_reason
reason_none f ks i all = at_drop_all (first_reason f) ks i all

pub tries_none : (f : Failing) (ks : List ReasonKind) (i : ℕ) → length ks ≤ i → all_tries f (drop i ks) ≡ 0
unfolding all_tries
tries_none f ks i all = at_drop_all (all_tries f) ks i all
