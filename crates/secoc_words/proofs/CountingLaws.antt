-- Laws of receivers that keep their counters
use Rattle.std.proofs.Common.{◌≡◌, ℕ, ◌<◌, ◌≤◌, ◌==◌, Bool, true, false, List, [], ◌∷◌, ◌++◌, length, get_or}
use Rattle.std.proofs.Common.{refl, sym, subst, arith, ⊎_elim}
use Rattle.std.specs.Prelude.{if◌then◌else◌, Option, None, Some, IfSome}
use Rattle.std.proofs.lemmas.Bool.{cases_lt}
use Rattle.std.proofs.lemmas.Bool.Decides.{nat_tests}
use Rattle.std.proofs.lemmas.List.{get_or_append_left, get_or_push, length_push}
use Rattle.std.proofs.lemmas.List.Quantifiers.{all_pairs_push}
use Rattle.secured_pdu.specs.Verdict.{Outcome, Accepted, FreshnessFailure, VerificationFailure, Verdict}
use Rattle.secoc_words.specs.Counting.{counter_behind, Acceptance, accepted_by, next_counter, last_accepted}
use Rattle.secoc_words.specs.Counting.{KeepsCounters, none, more, IsBelow, AcceptedRise}

-- the last answer is the last that a counter is taken from
pub last_accepted-more : (receiver counter : ℕ) (answers : List (Option Acceptance)) (answer : Option Acceptance)
    → last_accepted receiver counter (answers ++ answer ∷ [])
    ≡ next_counter receiver (last_accepted receiver counter answers) answer
last_accepted-more receiver counter [] answer = refl
last_accepted-more receiver counter (x ∷ answers) answer =
    last_accepted-more receiver (next_counter receiver counter x) answers answer

its_own : (r : ℕ) (b : Bool) (v c : ℕ) → (r == r) ≡ b → v ≡ (if b then v else c)
its_own r true v c e = refl
its_own r false v c e = absurd (grind (arith, nat_tests, e))

-- the counter after a verdict is that of the receiver after its answer
pub next_counter-verdict : (receiver counter : ℕ) (outcome : Outcome)
    → counter_behind counter outcome ≡ next_counter receiver counter (accepted_by receiver outcome)
next_counter-verdict r c (Accepted payload v) = its_own r (r == r) v c refl
next_counter-verdict r c FreshnessFailure = refl
next_counter-verdict r c VerificationFailure = refl

-- what a verdict accepts is above the counter
pub accepted_by-above : (receiver : ℕ) (key : List ℕ) (id counter window : ℕ) (frame : List ℕ) (outcome : Outcome)
    → Verdict key id counter window frame outcome → IfSome (accepted_by receiver outcome) (λ a. counter < a.freshness)
accepted_by-above r key id c w frame (Accepted payload v) judged = judged.0.above
accepted_by-above r key id c w frame FreshnessFailure judged = tt
accepted_by-above r key id c w frame VerificationFailure judged = tt

module _ (first : ℕ → ℕ) where
  abbrev counter_of : List (Option Acceptance) → ℕ → ℕ
  counter_of answers r = last_accepted r (first r) answers

  abbrev Above : List (Option Acceptance) → Option Acceptance → Type 0
  Above answers x = IfSome x (λ a. counter_of answers a.receiver < a.freshness)

  abbrev AtMost : (ℕ → ℕ) → Option Acceptance → Type 0
  AtMost counter x = IfSome x (λ a. a.freshness ≤ counter a.receiver)

  grow_at : (q r v : ℕ) (c : ℕ → ℕ) (b : Bool) → (q == r) ≡ b → c q < v → c r ≤ (if b then v else c r)
  grow_at q r v c true e h =
      let same : q ≡ r = grind (arith, nat_tests, e) in
      let here : c r < v = subst (λ k. c k < v) same h in
      omega (arith, here)
  grow_at q r v c false e h = omega arith

  -- no counter falls
  grows : (answers : List (Option Acceptance)) (x : Option Acceptance) → Above answers x → (r : ℕ)
      → counter_of answers r ≤ next_counter r (counter_of answers r) x
  grows answers None above r = omega arith
  grows answers (Some a) above r = grow_at a.receiver r a.freshness (counter_of answers) (a.receiver == r) refl above

  grows_more : (answers : List (Option Acceptance)) (x : Option Acceptance) → Above answers x → (r : ℕ)
      → counter_of answers r ≤ counter_of (answers ++ x ∷ []) r
  grows_more answers x above r = omega (arith, grows answers x above r, last_accepted-more r (first r) answers x)

  at_most_itself : (answers : List (Option Acceptance)) (x : Option Acceptance)
      → AtMost (counter_of (answers ++ x ∷ [])) x
  at_most_itself answers None = tt
  at_most_itself answers (Some a) =
      omega (
        arith,
        its_own a.receiver (a.receiver == a.receiver) a.freshness (counter_of answers a.receiver) refl,
        last_accepted-more a.receiver (first a.receiver) answers (Some a),
      )

  at_most_more : (c d : ℕ → ℕ) (x : Option Acceptance) → ((r : ℕ) → c r ≤ d r) → AtMost c x → AtMost d x
  at_most_more c d None le h = tt
  at_most_more c d (Some a) le h = omega (arith, le a.receiver, h)

  -- all that was accepted so far is at most the counter of its receiver
  all_at_most : (answers : List (Option Acceptance)) → KeepsCounters first answers → (k : ℕ) (d : Option Acceptance)
      → k < length answers → AtMost (counter_of answers) (get_or answers k d)
  all_at_most answers none k d within = absurd (omega (arith, within))
  all_at_most _ (more answers x keeps above) k d within =
      ⊎_elim
      (λ (lt : k < length answers). subst (AtMost (counter_of (answers ++ x ∷ [])))
      (sym (get_or_append_left answers (x ∷ []) d k lt))
      (at_most_more (counter_of answers) (counter_of (answers ++ x ∷ [])) (get_or answers k d)
      (grows_more answers x above)
      (all_at_most answers keeps k d lt)))
      (λ (le : length answers ≤ k). subst (AtMost (counter_of (answers ++ x ∷ [])))
      (sym (get_or_push answers x d k (omega (arith, le, within, length_push answers x)))) (at_most_itself answers x))
      (cases_lt k (length answers))

  below : (answers : List (Option Acceptance)) (x y : Option Acceptance) → AtMost (counter_of answers) x
      → Above answers y → IsBelow x y
  below answers None y h k = tt
  below answers (Some a) None h k = tt
  below answers (Some a) (Some b) h k = λ same.
      let here : counter_of answers a.receiver < b.freshness =
      subst (λ r. counter_of answers r < b.freshness) (sym same) k in
      omega (arith, h, here)

  -- accepted freshness rises
  pub KeepsCounters-rise : (answers : List (Option Acceptance)) → KeepsCounters first answers → AcceptedRise answers
  KeepsCounters-rise _ none = λ i j d lt within. absurd (omega (arith, within))
  KeepsCounters-rise _ (more answers x keeps above) =
      all_pairs_push IsBelow answers x (KeepsCounters-rise answers keeps)
      (λ k d within. below answers (get_or answers k d) x (all_at_most answers keeps k d within) above)
