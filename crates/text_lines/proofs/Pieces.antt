-- The first piece of a text that is cut at separators, and what is after it.
use Rattle.std.proofs.Common.{◌≡◌, ℕ, ◌+◌, ◌<◌, ◌≤◌, Bool, false, List, [], ◌∷◌, length, take, drop, refl, sym, ◌∙◌, ap, inl, inr, arith}
use Rattle.std.specs.Prelude.{filter}
use Rattle.std.specs.List.{position_or_len, slice_split, All}
use Rattle.std.proofs.lemmas.Bool.{cases_lt}
use Rattle.std.proofs.lemmas.List.{take_all, drop_all, length-take-le}
use Rattle.std.proofs.lemmas.List.Sums.{prefix_len-le-length, fails_before_first}
use Rattle.std.proofs.lemmas.List.Splits.{slice_split_first, slice_split_none}
use Rattle.text_lines.specs.Lines.{is_blank}
use Rattle.text_lines.specs.Places.{Piece, placed, is_word_piece, words_from}

-- the first place that passes is within the list, or its length
pub position_or_len_within : (p : ℕ → Bool) (s : List ℕ) → position_or_len p s ≤ length s
position_or_len_within p s = prefix_len-le-length _ s

-- if no separator is left, the list is one piece
pub placed-last : (p : ℕ → Bool) (at : ℕ) (s : List ℕ) → position_or_len p s ≡ length s
    → placed at (slice_split p s) ≡ record { at = at; bytes = s } ∷ []
unfolding placed
placed-last p at s e =
    let none : All (λ x. p x ≡ false) s = λ k d h. fails_before_first p s k d (omega arith) in
    ap (placed at) (slice_split_none p s none)

-- the first piece and those after it
pub placed-first : (p : ℕ → Bool) (at : ℕ) (s : List ℕ) → position_or_len p s < length s
    → placed at (slice_split p s)
    ≡ record { at = at; bytes = take (position_or_len p s) s }
    ∷ placed (at + position_or_len p s + 1) (slice_split p (drop (position_or_len p s + 1) s))
unfolding placed
placed-first p at s lt =
    let len : length (take (position_or_len p s) s) ≡ position_or_len p s = length-take-le (position_or_len p s) s (omega arith) in
    ap (placed at) (slice_split_first p s 0 lt)
    ∙ ap (λ (n : ℕ). record { at = at; bytes = take (position_or_len p s) s } ∷ placed (at + n + 1) (slice_split p (drop (position_or_len p s + 1) s))) len

-- a piece that isn't empty is kept
filter-word : (piece : Piece) (rest : List Piece) → 0 < length piece.bytes → filter is_word_piece (piece ∷ rest) ≡ piece ∷ filter is_word_piece rest
filter-word piece rest h = grind arith

-- and an empty one is not
filter-empty : (piece : Piece) (rest : List Piece) → length piece.bytes ≡ 0 → filter is_word_piece (piece ∷ rest) ≡ filter is_word_piece rest
filter-empty piece rest h = grind arith

-- nothing has no word
pub words_from-nil : (at : ℕ) → words_from at [] ≡ []
unfolding words_from placed
words_from-nil at = refl

-- the words, if no blank stands first
pub words_from-word : (at : ℕ) (s : List ℕ) → 0 < position_or_len is_blank s
    → words_from at s
    ≡ record { at = at; bytes = take (position_or_len is_blank s) s }
    ∷ words_from (at + position_or_len is_blank s + 1) (drop (position_or_len is_blank s + 1) s)
unfolding words_from
words_from-word at s h =
    let bound = position_or_len_within is_blank s in
    elim (cases_lt (position_or_len is_blank s) (length s)) [
      | inl lt ↦
          let len : length (take (position_or_len is_blank s) s) ≡ position_or_len is_blank s = length-take-le (position_or_len is_blank s) s bound in
          ap (filter is_word_piece) (placed-first is_blank at s lt)
          ∙ filter-word _ (placed (at + position_or_len is_blank s + 1) (slice_split is_blank (drop (position_or_len is_blank s + 1) s))) (omega (arith, len))
      | inr ge ↦
          let all : position_or_len is_blank s ≡ length s = omega arith in
          let nonempty : 0 < length s = omega arith in
          rw (take_all (position_or_len is_blank s) s (omega arith), drop_all (position_or_len is_blank s + 1) s (omega arith))
          (ap (filter is_word_piece) (placed-last is_blank at s all) ∙ filter-word (record { at = at; bytes = s }) [] nonempty
          ∙ ap (λ (l : List Piece). record { at = at; bytes = s } ∷ l) (sym (words_from-nil (at + position_or_len is_blank s + 1))))
    ]

-- the words after a blank
pub words_from-blank : (at : ℕ) (s : List ℕ) → position_or_len is_blank s ≡ 0
    → words_from at s ≡ words_from (at + 1) (drop 1 s)
unfolding words_from
words_from-blank at [] h = words_from-nil at ∙ sym (words_from-nil (at + 1))
words_from-blank at (c ∷ s) h =
    let lt : position_or_len is_blank (c ∷ s) < length (c ∷ s) = omega arith in
    let len : length (take (position_or_len is_blank (c ∷ s)) (c ∷ s)) ≡ position_or_len is_blank (c ∷ s) = length-take-le (position_or_len is_blank (c ∷ s)) (c ∷ s) (omega arith) in
    ap (filter is_word_piece) (placed-first is_blank at (c ∷ s) lt)
    ∙ filter-empty _ (placed (at + position_or_len is_blank (c ∷ s) + 1) (slice_split is_blank (drop (position_or_len is_blank (c ∷ s) + 1) (c ∷ s)))) (len ∙ h)
    ∙ ap (λ (m : ℕ). words_from (at + m + 1) (drop (m + 1) (c ∷ s))) h
    ∙ ap (λ (m : ℕ). words_from m s) (let e : at + 0 + 1 ≡ at + 1 = omega arith in e)
