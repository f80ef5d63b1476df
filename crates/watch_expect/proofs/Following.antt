-- What goes on behind the first bytes of a text
use Rattle.std.proofs.Common.{◌≡◌, ℕ, zero, suc, ◌+◌, ◌<◌, ◌≤◌, List, [], ◌∷◌, ◌++◌, length, take, drop, sym, ap, ◌∙◌, arith, length-append}
use Rattle.std.specs.List.{slice_get}
use Rattle.std.proofs.lemmas.List.{length-take-le, length-drop, take-append-drop, take_all}
use Rattle.std.proofs.Math.Seq.{take-add, take-append-add, drop-append-add, drop-length}
use Rattle.std.proofs.Math.ListN.{drop_of_length-le}
use Rattle.watch_expect.specs.Comparing.{Parts, LeavesAt}

-- the elements behind the first ones
get_behind : (a b : List ℕ) (k n : ℕ) → n ≡ length a + k → slice_get (a ++ b) n ≡ slice_get b k
get_behind [] b k n is = ap (slice_get b) (omega (arith, is))
get_behind (x ∷ a) b k zero is = absurd (omega (arith, is))
get_behind (x ∷ a) b k (suc n) is = get_behind a b k n (omega (arith, is))

module _ (text found : List ℕ) (at count : ℕ) (within : at ≤ length text) (inside : count ≤ length (drop at text)) where
  abbrev first : List ℕ
  first = take at text

  first_size : length first ≡ at
  first_size = length-take-le at text within

  pub short : at + count ≤ length text
  short = omega (arith, within, inside, length-drop at text)

  -- all of it is the text's next bytes
  pub follows : take count (drop at text) ≡ take count found → length found ≤ count → take (at + count) text ≡ first ++ found
  follows same whole = take-add at count text ∙ ap (λ (t : List ℕ). first ++ t) (same ∙ take_all count found whole)

  -- it leaves the text
  pub leaves : take count (drop at text) ≡ take count found → count < length found → Parts (slice_get (drop at text) count) (slice_get found count)
      → LeavesAt text (first ++ found) (at + count)
  leaves same less parts =
      let size : at + count ≡ length first + count = ap (λ (n : ℕ). n + count) (sym first_size) in
      let own : slice_get text (at + count) ≡ slice_get (drop at text) count =
      ap (λ (t : List ℕ). slice_get t (at + count)) (sym (take-append-drop at text)) ∙ get_behind first (drop at text) count (at + count) size in
      let other : slice_get (first ++ found) (at + count) ≡ slice_get found count = get_behind first found count (at + count) size in (
        ap (λ (n : ℕ). take n (first ++ found)) size ∙ take-append-add first found count ∙ ap (λ (t : List ℕ). first ++ t) (sym same) ∙ sym (take-add at count text),
        omega (arith, less, first_size, length-append first found),
        λ same_next. parts (sym own ∙ same_next ∙ other),
      )

  -- what was found goes on there
  pub goes_on_at : drop count found ≡ drop (at + count) (first ++ found)
  goes_on_at =
      sym (ap (λ (n : ℕ). drop n (first ++ found)) (ap (λ (n : ℕ). n + count) (sym first_size)) ∙ drop-append-add first found count)

-- nothing goes on behind all of it
pub nothing_left : (text found : List ℕ) (at next : ℕ) → next ≤ length text → take next text ≡ take at text ++ found → drop (length found) found ≡ drop next (take at text ++ found)
nothing_left text found at next few is =
    drop-length found ∙ sym (ap (drop next) (sym is) ∙ drop_of_length-le (take next text) (omega (arith, length-take-le next text few)))
