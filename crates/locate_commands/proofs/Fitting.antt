-- The least freshness that fits, step by step of 256
use Rattle.std.proofs.Common.{◌≡◌, ℕ, zero, suc, ◌+◌, ◌-◌, ◌*◌, ◌%◌, ◌^◌, ◌<◌, ◌≤◌, ◌==◌, ◌&&◌, Bool, true, false, List, [], ◌∷◌, length, get_or, drop, refl, sym, ◌∙◌, ap, arith, inl, inr}
use Rattle.std.specs.Prelude.{find, if◌then◌else◌, slice_index, nat_lt, nat_le, is_some, unwrap_or, Option, None, Some}
use Rattle.std.proofs.Math.Seq.{drop-cons}
use Rattle.std.proofs.lemmas.List.{drop_all}
use Rattle.std.specs.List.{range_with_len}
use Rattle.std.proofs.lemmas.Bool.Decides.{nat_tests}
use Rattle.explain_commands.specs.declared.trials.Comparison.{Comparison}
use Rattle.explain_commands.specs.declared.trials.Comparison.TheVariants as compared
use Rattle.explain_commands.specs.declared.trials.Making.TheVariants as making
use Rattle.explain_commands.specs.declared.trials.KnownReceiver.{KnownReceiver}
use Rattle.explain_commands.specs.Trials.{has_room, has_low, low_carried, tag_trial, trial_with, agrees, accepted_freshness}
use Rattle.explain_commands.proofs.CallerLemmas.{none_more, found_within}
use Rattle.std.proofs.lemmas.Bool.{cases_lt}
use Rattle.locate_commands.specs.Locating.{knowing, accepted_count, fit_first, fits, IsLeast}

-- nothing is found among more numbers, if none of these is
pub none_by : (test : ℕ → Bool) (a n d : ℕ) → find test (range_with_len a n) ≡ None → ((k : ℕ) → n ≤ k → k < n + d → test (a + k) ≡ false)
    → find test (range_with_len a (n + d)) ≡ None
none_by test a n zero none fails = ap (λ (k : ℕ). find test (range_with_len a k)) (let e : n + 0 ≡ n = omega arith in e) ∙ none
none_by test a n (suc d) none fails =
    ap (λ (k : ℕ). find test (range_with_len a k)) (let e : n + suc d ≡ (n + d) + 1 = omega arith in e)
    ∙ none_more test a (n + d) (a + (n + d)) refl (none_by test a n d none (λ k from to. fails k from (omega (arith, to)))) (fails (n + d) (omega arith) (omega arith))

-- nothing is found, if none of the numbers is
pub none_of : (test : ℕ → Bool) (a m : ℕ) → ((k : ℕ) → k < m → test (a + k) ≡ false) → find test (range_with_len a m) ≡ None
none_of test a m fails =
    ap (λ (k : ℕ). find test (range_with_len a k)) (let e : m ≡ 0 + m = omega arith in e)
    ∙ none_by test a 0 m refl (λ k from to. fails k (omega (arith, to)))

-- ---- which values fit

fails_by : (room low rest : Bool) (t : Comparison) → low ≡ false → (agrees (if room && low then t else compared.Skipped) && rest) ≡ false
fails_by true low rest t is = rw is refl
fails_by false low rest t is = refl

fails_short : (room low rest : Bool) (t : Comparison) → room ≡ false → (agrees (if room && low then t else compared.Skipped) && rest) ≡ false
fails_short room low rest t is = rw is refl

holds_by : (room low rest : Bool) (t : Comparison) → room ≡ true → low ≡ true → (agrees (if room && low then t else compared.Skipped) && rest) ≡ (agrees t && rest)
holds_by room low rest t is_room is_low = rw (is_room, is_low) refl

and_false : (a b : Bool) → a ≡ false → (a && b) ≡ false
and_false a b is = rw is refl

both_true : (a b : Bool) → a ≡ true → b ≡ true → (a && b) ≡ true
both_true a b x y = rw (x, y) refl

other_low : (v low : ℕ) → ¬ (v % 256 ≡ low) → (v % 256 == low) ≡ false
other_low v low other = grind (arith, nat_tests, other)

same_low : (v low : ℕ) → v % 256 ≡ low → (v % 256 == low) ≡ true
same_low v low is = grind (arith, nat_tests, is)

small : (v : ℕ) → v < 2 ^ 64 → nat_lt v (2 ^ 64) ≡ true
small v is = grind (arith, nat_tests, is)

module _ (r : KnownReceiver) (first : List ℕ) (rest : List (List ℕ)) where
  -- two of the other frames are accepted
  abbrev enough : ℕ → Bool
  enough v = nat_le 2 (accepted_count r v rest)

  -- a freshness with another low byte doesn't
  pub fails_low : (v : ℕ) → ¬ (v % 256 ≡ slice_index first r.size) → fit_first r first rest v ≡ false
  unfolding trial_with
  fails_low v other =
      fails_by (has_room r.size first) (has_low (low_carried r first) v) (enough v) (tag_trial making.Standard r first v)
      (and_false (v % 256 == low_carried r first) (nat_lt v (2 ^ 64)) (other_low v (low_carried r first) other))

  -- none does with a frame that is too short
  pub fails_room : (v : ℕ) → has_room r.size first ≡ false → fit_first r first rest v ≡ false
  unfolding trial_with
  fails_room v is = fails_short (has_room r.size first) (has_low (low_carried r first) v) (enough v) (tag_trial making.Standard r first v) is

  -- the others are tried
  pub fit_tried : (v : ℕ) → has_room r.size first ≡ true → v % 256 ≡ slice_index first r.size → v < 2 ^ 64
      → fit_first r first rest v ≡ (agrees (tag_trial making.Standard r first v) && nat_le 2 (accepted_count r v rest))
  unfolding trial_with
  fit_tried v room low few =
      holds_by (has_room r.size first) (has_low (low_carried r first) v) (enough v) (tag_trial making.Standard r first v) room
      (both_true (v % 256 == low_carried r first) (nat_lt v (2 ^ 64)) (same_low v (low_carried r first) low) (small v few))

-- two values with the same low byte are 256 apart
pub apart : (v w low : ℕ) → v % 256 ≡ low → v < w → w < v + 256 → ¬ (w % 256 ≡ low)
apart v w low is more less same = omega (arith, is, more, less, same)

-- ---- room

right_false : (a b : Bool) → b ≡ false → (a && b) ≡ false
right_false true b is = is
right_false false b is = refl

test_le : (n m : ℕ) → n ≤ m → nat_le n m ≡ true
test_le n m is = grind (arith, nat_tests, is)

test_gt : (n m : ℕ) → m < n → nat_le n m ≡ false
test_gt n m is = grind (arith, nat_tests, is)

pub no_room : (size : ℕ) (bytes : List ℕ) → length bytes < size + 4 → has_room size bytes ≡ false
no_room size bytes short = right_false (nat_le 1 size && nat_le size 60) (nat_le (size + 4) (length bytes)) (test_gt (size + 4) (length bytes) short)

pub some_room : (size : ℕ) (bytes : List ℕ) → 1 ≤ size → size ≤ 60 → size + 4 ≤ length bytes → has_room size bytes ≡ true
some_room size bytes some few enough =
    both_true (nat_le 1 size && nat_le size 60) (nat_le (size + 4) (length bytes))
    (both_true (nat_le 1 size) (nat_le size 60) (test_le 1 size some) (test_le size 60 few)) (test_le (size + 4) (length bytes) enough)

-- ---- the search

-- the first value of a range that fits, if none before does
pub found_at : (test : ℕ → Bool) (first v last : ℕ) → first ≤ v → v ≤ last → ((w : ℕ) → first ≤ w → w < v → test w ≡ false) → test v ≡ true
    → find test (range_with_len first (last + 1 - first)) ≡ Some v
found_at test first v last from to fails passes =
    found_within test first (v - first) v (last + 1 - first) (omega (arith, from)) (omega (arith, from, to))
    (none_of test first (v - first) (λ k within. fails (first + k) (omega arith) (omega (arith, within, from)))) passes

-- none, if none does
pub found_none : (test : ℕ → Bool) (first last : ℕ) → ((w : ℕ) → first ≤ w → w ≤ last → test w ≡ false) → find test (range_with_len first (last + 1 - first)) ≡ None
found_none test first last fails = none_of test first (last + 1 - first) (λ k within. fails (first + k) (omega arith) (omega (arith, within)))

-- what is found from one value on is found from an earlier one on, if none between fits
pub least_found : (test : ℕ → Bool) (first start last : ℕ) (found : Option ℕ) → first ≤ start → ((w : ℕ) → first ≤ w → w < start → test w ≡ false)
    → IsLeast test start last found → find test (range_with_len first (last + 1 - first)) ≡ found
least_found test first start last None from fails none = found_none test first last (λ w above below. elim (cases_lt w start) [
  | inl before ↦ fails w above before
  | inr after ↦ none w after below
])
least_found test first start last (Some v) from fails (above, below, passes, none) =
    found_at test first v last (omega (arith, from, above)) below
    (λ w over less. elim (cases_lt w start) [
      | inl before ↦ fails w over before
      | inr after ↦ none w after less
    ])
    passes

-- steps of 256 keep the low byte
pub low_on : (start step low : ℕ) → start % 256 ≡ low → (start + 256 * step) % 256 ≡ low
low_on start step low is = omega (arith, is)

-- ---- the frames after the first

-- one frame more is looked at
count_next : (r : KnownReceiver) (v k : ℕ) (frames : List (List ℕ)) (d : List ℕ) (o : Option ℕ) → k < length frames
    → o ≡ accepted_freshness (knowing v r) (get_or frames k d)
    → accepted_count r v (drop k frames) ≡ (if is_some o then 1 else 0) + accepted_count r (unwrap_or o v) (drop (k + 1) frames)
unfolding accepted_count
count_next r v k frames d o within is =
    ap (accepted_count r v) (drop-cons frames k d within ∙ ap (λ (n : ℕ). get_or frames k d ∷ drop n frames) (let e : suc k ≡ k + 1 = omega arith in e))
    ∙ ap (λ (p : Option ℕ). (if is_some p then 1 else 0) + accepted_count r (unwrap_or p v) (drop (k + 1) frames)) (sym is)

-- one that is accepted counts, and its freshness is the counter of the next
pub count_accepted : (r : KnownReceiver) (total count v next k : ℕ) (frames : List (List ℕ)) (d : List ℕ) → k < length frames
    → total ≡ count + accepted_count r v (drop k frames) → accepted_freshness (knowing v r) (get_or frames k d) ≡ Some next
    → total ≡ count + 1 + accepted_count r next (drop (k + 1) frames)
count_accepted r total count v next k frames d within so_far is =
    let step : accepted_count r v (drop k frames) ≡ 1 + accepted_count r next (drop (k + 1) frames) = count_next r v k frames d (Some next) within (sym is) in
    omega (arith, so_far, step)

-- another changes nothing
pub count_refused : (r : KnownReceiver) (total count v k : ℕ) (frames : List (List ℕ)) (d : List ℕ) → k < length frames
    → total ≡ count + accepted_count r v (drop k frames) → accepted_freshness (knowing v r) (get_or frames k d) ≡ None
    → total ≡ count + accepted_count r v (drop (k + 1) frames)
count_refused r total count v k frames d within so_far is =
    let step : accepted_count r v (drop k frames) ≡ 0 + accepted_count r v (drop (k + 1) frames) = count_next r v k frames d None within (sym is) in
    omega (arith, so_far, step)

-- none is left
pub count_end : (r : KnownReceiver) (v k : ℕ) (frames : List (List ℕ)) → length frames ≤ k → accepted_count r v (drop k frames) ≡ 0
unfolding accepted_count
count_end r v k frames all = ap (accepted_count r v) (drop_all k frames all)

-- no frame fits no value
pub none_fits : (r : KnownReceiver) (frames : List (List ℕ)) (v : ℕ) → length frames ≡ 0 → fits r frames v ≡ false
none_fits r [] v none = refl
none_fits r (first ∷ rest) v none = absurd (omega (arith, none))
