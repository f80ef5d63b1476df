-- Steps along a text: from the words, or the lines, that begin at one place to those after it.
use Rattle.std.proofs.Common.{◌≡◌, ℕ, ◌+◌, ◌-◌, ◌<◌, ◌≤◌, List, [], ◌∷◌, ◌++◌, take, drop, map, sym, ◌∙◌, ap, inl, inr, arith, append_assoc, append-nil}
use Rattle.std.specs.List.{position_or_len}
use Rattle.std.proofs.lemmas.Bool.{cases_lt}
use Rattle.std.proofs.lemmas.List.{drop_all, take-take, drop-take, drop-drop, map-append, length-take}
use Rattle.text_lines.specs.declared.span.Span.{Span}
use Rattle.text_lines.specs.Lines.{is_blank}
use Rattle.text_lines.specs.Places.{Piece, words_from}
use Rattle.text_lines.specs.Spans.{piece_at}
use Rattle.text_lines.proofs.Pieces.{words_from-nil, words_from-word, words_from-blank}

-- one more at the end of a mapped list, before what is left
pub map_push : {A B : Type 0} (f : A → B) (xs : List A) (x : A) (rest : List B) → map f (xs ++ x ∷ []) ++ rest ≡ map f xs ++ f x ∷ rest
map_push f xs x rest = ap (λ ys. ys ++ rest) (map-append f xs (x ∷ [])) ∙ append_assoc (map f xs) (f x ∷ []) rest

-- the first part of a list, without its beginning
drop-take_any : (a b : ℕ) (xs : List ℕ) → drop a (take b xs) ≡ take (b - a) (drop a xs)
drop-take_any a b xs = elim (cases_lt b a) [
  | inl lt ↦
      let e : b - a ≡ 0 = omega arith in
      drop_all a (take b xs) (omega (arith, length-take b xs)) ∙ ap (λ (m : ℕ). take m (drop a xs)) (sym e)
  | inr ge ↦
      let e : b ≡ a + (b - a) = omega arith in
      ap (λ (m : ℕ). drop a (take m xs)) e ∙ drop-take a (b - a) xs
]

-- the words of a text between two places
abbrev pub words_between : List ℕ → ℕ → ℕ → List Piece
words_between text at end = words_from at (take (end - at) (drop at text))

-- what is left of a part of a text
rest_between : (text : List ℕ) (at end n : ℕ) → drop (n + 1) (take (end - at) (drop at text)) ≡ take (end - (at + n + 1)) (drop (at + n + 1) text)
rest_between text at end n =
    let places : at + (n + 1) ≡ at + n + 1 = omega arith in
    let lengths : end - at - (n + 1) ≡ end - (at + n + 1) = omega arith in
    drop-take_any (n + 1) (end - at) (drop at text)
    ∙ ap (take (end - at - (n + 1))) (drop-drop (n + 1) at text)
    ∙ ap (λ (m : ℕ). take (end - at - (n + 1)) (drop m text)) places
    ∙ ap (λ (m : ℕ). take m (drop (at + n + 1) text)) lengths

-- a word, and the words after it
pub words_between-word : (text : List ℕ) (at end stop : ℕ) → stop ≡ at + position_or_len is_blank (take (end - at) (drop at text)) → at < stop → stop ≤ end
    → words_between text at end ≡ record { at = at; bytes = take (stop - at) (drop at text) } ∷ words_between text (stop + 1) end
words_between-word text at end stop e lt le =
    let s : List ℕ = take (end - at) (drop at text) in
    let n : ℕ = position_or_len is_blank s in
    let len : n ≡ stop - at = omega arith in
    let behind : at + n + 1 ≡ stop + 1 = omega arith in
    let whole : take n s ≡ take (stop - at) (drop at text) = take-take n (end - at) (drop at text) (omega arith) ∙ ap (λ (m : ℕ). take m (drop at text)) len in
    words_from-word at s (omega arith)
    ∙ ap (λ (l : List ℕ). record { at = at; bytes = l } ∷ words_from (at + n + 1) (drop (n + 1) s)) whole
    ∙ ap (λ (l : List ℕ). record { at = at; bytes = take (stop - at) (drop at text) } ∷ words_from (at + n + 1) l) (rest_between text at end n)
    ∙ ap (λ (m : ℕ). record { at = at; bytes = take (stop - at) (drop at text) } ∷ words_between text m end) behind

-- a blank, and the words after it
pub words_between-blank : (text : List ℕ) (at end stop : ℕ) → stop ≡ at + position_or_len is_blank (take (end - at) (drop at text)) → stop ≤ at
    → words_between text at end ≡ words_between text (stop + 1) end
words_between-blank text at end stop e le =
    let none : position_or_len is_blank (take (end - at) (drop at text)) ≡ 0 = omega arith in
    let behind : at + 0 + 1 ≡ stop + 1 = omega arith in
    let next : at + 1 ≡ stop + 1 = omega arith in
    words_from-blank at (take (end - at) (drop at text)) none
    ∙ ap (words_from (at + 1)) (rest_between text at end 0)
    ∙ ap (λ (m : ℕ). words_from (at + 1) (take (end - m) (drop m text))) behind
    ∙ ap (λ (m : ℕ). words_from m (take (end - (stop + 1)) (drop (stop + 1) text))) next

-- no words stand after the end
pub words_between-end : (text : List ℕ) (at end : ℕ) → end ≤ at → words_between text at end ≡ []
words_between-end text at end le =
    let none : end - at ≡ 0 = omega arith in
    ap (λ (m : ℕ). words_from at (take m (drop at text))) none ∙ words_from-nil at

-- a step of the loop over the words, if a word is pushed
pub words_step-word : (text : List ℕ) (at end stop : ℕ) (xs ys : List Span) (words : List Piece)
    → ys ≡ xs ++ record { at = at; len = stop - at } ∷ []
    → stop ≡ at + position_or_len is_blank (take (end - at) (drop at text)) → at < stop → stop ≤ end
    → map (piece_at text) xs ++ words_between text at end ≡ words
    → map (piece_at text) ys ++ words_between text (stop + 1) end ≡ words
words_step-word text at end stop xs ys words pushed e lt le so_far =
    ap (λ (l : List Span). map (piece_at text) l ++ words_between text (stop + 1) end) pushed
    ∙ map_push (piece_at text) xs (record { at = at; len = stop - at }) (words_between text (stop + 1) end)
    ∙ ap (λ (l : List Piece). map (piece_at text) xs ++ l) (sym (words_between-word text at end stop e lt le))
    ∙ so_far

-- a step of the loop over the words, if none stands
pub words_step-blank : (text : List ℕ) (at end stop : ℕ) (xs ys : List Span) (words : List Piece)
    → ys ≡ xs
    → stop ≡ at + position_or_len is_blank (take (end - at) (drop at text)) → stop ≤ at
    → map (piece_at text) xs ++ words_between text at end ≡ words
    → map (piece_at text) ys ++ words_between text (stop + 1) end ≡ words
words_step-blank text at end stop xs ys words same e le so_far =
    ap (λ (l : List Span). map (piece_at text) l ++ words_between text (stop + 1) end) same
    ∙ ap (λ (l : List Piece). map (piece_at text) xs ++ l) (sym (words_between-blank text at end stop e le))
    ∙ so_far

-- the words, once the end is reached
pub words_done : (text : List ℕ) (at end : ℕ) (xs : List Span) (words : List Piece) → end ≤ at
    → map (piece_at text) xs ++ words_between text at end ≡ words → map (piece_at text) xs ≡ words
words_done text at end xs words le so_far =
    sym (append-nil (map (piece_at text) xs))
    ∙ ap (λ (l : List Piece). map (piece_at text) xs ++ l) (sym (words_between-end text at end le))
    ∙ so_far
