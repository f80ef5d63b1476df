-- Steps along a text: from the lines that begin at one place to those after it.
use Rattle.std.proofs.Common.{◌≡◌, ℕ, ◌+◌, ◌-◌, ◌≤◌, Bool, true, false, cond, List, [], ◌∷◌, ◌++◌, length, take, drop, map, refl, sym, ◌∙◌, ap, inl, inr, arith, append-nil, append_assoc}
use Rattle.std.specs.Prelude.{◌==◌}
use Rattle.std.specs.List.{position_or_len, slice_split}
use Rattle.std.proofs.lemmas.Bool.{cases_lt}
use Rattle.std.proofs.lemmas.List.{take_all, drop_all, map-append, take-take, drop-drop, length-take, length-drop}
use Rattle.text_lines.specs.declared.span.Span.{Span}
use Rattle.text_lines.specs.declared.span.Cut.{Cut}
use Rattle.text_lines.specs.Lines.{TextLine, is_line_feed, last_byte, without_return, is_skipped, lines_of}
use Rattle.text_lines.specs.Places.{Piece, PlacedLine, placed, words_from, placed_words_of, texts_of, unplaced, placed_kept, placed_numbered, placed_lines_of}
use Rattle.text_lines.specs.Spans.{word_at, piece_at, line_at}
use Rattle.text_lines.proofs.Pieces.{position_or_len_within, placed-last, placed-first}
use Rattle.text_lines.proofs.Cuts.{words_between}
use Rattle.text_lines.proofs.Unplaced.{texts_of_pieces_at, unplaced-placed_lines_of}

-- the line with this number that stands between two places of a text
abbrev pub line_between : List ℕ → ℕ → ℕ → ℕ → PlacedLine
line_between text number at end = record { number = number; words = placed_words_of (record { at = at; bytes = take (end - at) (drop at text) }) }

-- the lines of a text that begin at a place
abbrev pub lines_from : List ℕ → ℕ → ℕ → List PlacedLine
lines_from text number at = placed_numbered number (placed at (slice_split is_line_feed (drop at text)))

-- no line of nothing is kept
numbered-nil : (number at : ℕ) → placed_numbered number (placed at (slice_split is_line_feed [])) ≡ []
unfolding placed_numbered placed_kept is_skipped words_from placed
numbered-nil number at = refl

-- no line is left at the end of the text
pub lines_from-end : (text : List ℕ) (number at : ℕ) → length text ≤ at → lines_from text number at ≡ []
lines_from-end text number at le =
    ap (λ (s : List ℕ). placed_numbered number (placed at (slice_split is_line_feed s))) (drop_all at text le)
    ∙ numbered-nil number at

-- one line, and those after it
pub lines_from-step : (text : List ℕ) (number at end : ℕ) → end ≡ at + position_or_len is_line_feed (drop at text)
    → lines_from text number at ≡ placed_kept (line_between text number at end) ++ lines_from text (number + 1) (end + 1)
unfolding placed_numbered
lines_from-step text number at end e =
    let s : List ℕ = drop at text in
    let n : ℕ = position_or_len is_line_feed s in
    let bound : n ≤ length s = position_or_len_within is_line_feed s in
    let len : n ≡ end - at = omega arith in
    let line : PlacedLine = line_between text number at end in
    elim (cases_lt n (length s)) [
      | inl lt ↦
          let behind : at + n + 1 ≡ end + 1 = omega arith in
          let places : at + (n + 1) ≡ end + 1 = omega arith in
          ap (placed_numbered number) (placed-first is_line_feed at s lt)
          ∙ ap (λ (m : ℕ). placed_kept (record { number = number; words = placed_words_of (record { at = at; bytes = take m s }) }) ++ placed_numbered (number + 1) (placed (at + n + 1) (slice_split is_line_feed (drop (n + 1) s)))) len
          ∙ ap (λ (l : List ℕ). placed_kept line ++ placed_numbered (number + 1) (placed (at + n + 1) (slice_split is_line_feed l))) (drop-drop (n + 1) at text ∙ ap (λ (m : ℕ). drop m text) places)
          ∙ ap (λ (m : ℕ). placed_kept line ++ placed_numbered (number + 1) (placed m (slice_split is_line_feed (drop (end + 1) text)))) behind
      | inr ge ↦
          let all : n ≡ length s = omega arith in
          let done : length text ≤ end + 1 = omega (arith, length-drop at text) in
          ap (placed_numbered number) (placed-last is_line_feed at s all)
          ∙ ap (λ (l : List ℕ). placed_kept (record { number = number; words = placed_words_of (record { at = at; bytes = l }) }) ++ []) (sym (take_all (end - at) s (omega arith)))
          ∙ ap (λ (l : List PlacedLine). placed_kept line ++ l) (sym (lines_from-end text (number + 1) (end + 1) done))
    ]

-- a line without its carriage return is a beginning of the line
without_return-take : (line : List ℕ) → without_return line ≡ take (length (without_return line)) line
without_return-take line =
    let at_end : Bool = last_byte line == 13 in
    let P : Bool → Type 0 = λ b. cond b (take (length line - 1) line) line ≡ take (length (cond b (take (length line - 1) line) line)) line in
    elim at_end as (λ b. P b) [
      | true ↦
          let len : length (take (length line - 1) line) ≡ length line - 1 = omega (arith, length-take (length line - 1) line) in
          ap (λ (m : ℕ). take m line) (sym len)
      | false ↦ sym (take_all (length line) line (omega arith))
    ]

-- the words of a line are those up to the end of its content
pub words_between-content : (text : List ℕ) (at end content : ℕ)
    → content ≡ at + length (without_return (take (end - at) (drop at text))) → content ≤ end
    → words_between text at content ≡ words_from at (without_return (take (end - at) (drop at text)))
words_between-content text at end content e le =
    let line : List ℕ = take (end - at) (drop at text) in
    let len : content - at ≡ length (without_return line) = omega arith in
    ap (words_from at)
    (sym (take-take (content - at) (end - at) (drop at text) (omega arith)) ∙ ap (λ (m : ℕ). take m line) len ∙ sym (without_return-take line))

-- a line that isn't skipped is kept
placed_kept-unskipped : (line : PlacedLine) → is_skipped (texts_of line.words) ≡ false → placed_kept line ≡ line ∷ []
unfolding placed_kept
placed_kept-unskipped line h = ap (λ (b : Bool). cond b [] (line ∷ [])) h

-- and one that is skipped is not
placed_kept-skipped : (line : PlacedLine) → is_skipped (texts_of line.words) ≡ true → placed_kept line ≡ []
unfolding placed_kept
placed_kept-skipped line h = ap (λ (b : Bool). cond b [] (line ∷ [])) h

-- whether a line of spans is skipped
skipped-spans : (text : List ℕ) (spans : List Span) (words : List Piece) (b : Bool) → map (piece_at text) spans ≡ words
    → b ≡ is_skipped (map (word_at text) spans) → is_skipped (texts_of words) ≡ b
skipped-spans text spans words b here e =
    ap (λ (l : List Piece). is_skipped (texts_of l)) (sym here) ∙ ap is_skipped (texts_of_pieces_at text spans) ∙ sym e

-- the lines from a place on, the first of which is kept
pub lines_from-kept : (text : List ℕ) (number at end : ℕ) (spans : List Span)
    → end ≡ at + position_or_len is_line_feed (drop at text)
    → map (piece_at text) spans ≡ placed_words_of (record { at = at; bytes = take (end - at) (drop at text) })
    → false ≡ is_skipped (map (word_at text) spans)
    → lines_from text number at ≡ record { number = number; words = map (piece_at text) spans } ∷ lines_from text (number + 1) (end + 1)
lines_from-kept text number at end spans ends here plain =
    let rest : List PlacedLine = lines_from text (number + 1) (end + 1) in
    lines_from-step text number at end ends
    ∙ ap (λ (l : List PlacedLine). l ++ rest) (placed_kept-unskipped (line_between text number at end) (skipped-spans text spans _ false here plain))
    ∙ ap (λ (l : List Piece). record { number = number; words = l } ∷ rest) (sym here)

-- the lines from a place on, the first of which is skipped
pub lines_from-skipped : (text : List ℕ) (number at end : ℕ) (spans : List Span)
    → end ≡ at + position_or_len is_line_feed (drop at text)
    → map (piece_at text) spans ≡ placed_words_of (record { at = at; bytes = take (end - at) (drop at text) })
    → true ≡ is_skipped (map (word_at text) spans)
    → lines_from text number at ≡ lines_from text (number + 1) (end + 1)
lines_from-skipped text number at end spans ends here skips =
    let rest : List PlacedLine = lines_from text (number + 1) (end + 1) in
    lines_from-step text number at end ends
    ∙ ap (λ (l : List PlacedLine). l ++ rest) (placed_kept-skipped (line_between text number at end) (skipped-spans text spans _ true here skips))

-- a step of `cut`, with the cut that one line gave, if it was kept
pub cut_step : (text : List ℕ) (number at end : ℕ) (found xs ys : List Cut) (lines : List PlacedLine)
    → end ≡ at + position_or_len is_line_feed (drop at text)
    → map (line_at text) found ≡ placed_kept (line_between text number at end)
    → ys ≡ xs ++ found
    → map (line_at text) xs ++ lines_from text number at ≡ lines
    → map (line_at text) ys ++ lines_from text (number + 1) (end + 1) ≡ lines
cut_step text number at end found xs ys lines ends read pushed so_far =
    let rest : List PlacedLine = lines_from text (number + 1) (end + 1) in
    ap (λ (l : List Cut). map (line_at text) l ++ rest) pushed
    ∙ ap (λ (l : List PlacedLine). l ++ rest) (map-append (line_at text) xs found)
    ∙ append_assoc (map (line_at text) xs) (map (line_at text) found) rest
    ∙ ap (λ (l : List PlacedLine). map (line_at text) xs ++ (l ++ rest)) read
    ∙ ap (λ (l : List PlacedLine). map (line_at text) xs ++ l) (sym (lines_from-step text number at end ends))
    ∙ so_far

-- the lines, once the end of the text is reached
pub cut_done : (text : List ℕ) (number at : ℕ) (xs : List Cut) → length text ≤ at
    → map (line_at text) xs ++ lines_from text number at ≡ placed_lines_of text → map (line_at text) xs ≡ placed_lines_of text
cut_done text number at xs le so_far =
    sym (append-nil (map (line_at text) xs))
    ∙ ap (λ (l : List PlacedLine). map (line_at text) xs ++ l) (sym (lines_from-end text number at le))
    ∙ so_far

-- the lines, before the first
pub lines_begin : (text : List ℕ) → lines_from text 1 0 ≡ placed_lines_of text
unfolding placed_lines_of
lines_begin text = refl

-- the lines from a place on, without the places of their words
abbrev pub lines_left : List ℕ → ℕ → ℕ → List TextLine
lines_left text number at = map unplaced (lines_from text number at)

pub lines_left-begin : (text : List ℕ) → lines_left text 1 0 ≡ lines_of text
lines_left-begin text = ap (map unplaced) (lines_begin text) ∙ unplaced-placed_lines_of text

pub lines_left-end : (text : List ℕ) (number at : ℕ) → length text ≤ at → lines_left text number at ≡ []
lines_left-end text number at le = ap (map unplaced) (lines_from-end text number at le)

pub lines_left-kept : (text : List ℕ) (number at end : ℕ) (spans : List Span)
    → end ≡ at + position_or_len is_line_feed (drop at text)
    → map (piece_at text) spans ≡ placed_words_of (record { at = at; bytes = take (end - at) (drop at text) })
    → false ≡ is_skipped (map (word_at text) spans)
    → lines_left text number at ≡ record { number = number; words = map (word_at text) spans } ∷ lines_left text (number + 1) (end + 1)
lines_left-kept text number at end spans ends here plain =
    ap (map unplaced) (lines_from-kept text number at end spans ends here plain)
    ∙ ap (λ (l : List (List ℕ)). record { number = number; words = l } ∷ lines_left text (number + 1) (end + 1)) (texts_of_pieces_at text spans)

pub lines_left-skipped : (text : List ℕ) (number at end : ℕ) (spans : List Span)
    → end ≡ at + position_or_len is_line_feed (drop at text)
    → map (piece_at text) spans ≡ placed_words_of (record { at = at; bytes = take (end - at) (drop at text) })
    → true ≡ is_skipped (map (word_at text) spans)
    → lines_left text number at ≡ lines_left text (number + 1) (end + 1)
lines_left-skipped text number at end spans ends here skips = ap (map unplaced) (lines_from-skipped text number at end spans ends here skips)
