-- Lines and words without their places are those of the text.
use Rattle.std.proofs.Common.{◌≡◌, ℕ, ◌+◌, Bool, true, false, cond, List, [], ◌∷◌, ◌++◌, length, map, refl, ◌∙◌, ap}
use Rattle.std.specs.Prelude.{filter}
use Rattle.std.specs.List.{slice_split}
use Rattle.std.proofs.lemmas.List.{map-append}
use Rattle.text_lines.specs.declared.span.Span.{Span}
use Rattle.text_lines.specs.Lines.{TextLine, is_line_feed, is_blank, without_return, is_word, words_of, is_skipped, kept, numbered, lines_of}
use Rattle.text_lines.specs.Places.{Piece, PlacedLine, placed, is_word_piece, words_from, placed_words_of, texts_of, unplaced, placed_kept, placed_numbered, placed_lines_of}
use Rattle.text_lines.specs.Spans.{word_at, piece_at}

-- the texts at spans
pub texts_of_pieces_at : (text : List ℕ) (spans : List Span) → texts_of (map (piece_at text) spans) ≡ map (word_at text) spans
texts_of_pieces_at text [] = refl
texts_of_pieces_at text (span ∷ spans) = ap (λ (l : List (List ℕ)). word_at text span ∷ l) (texts_of_pieces_at text spans)

-- the texts of placed words
pub texts_of-placed : (at : ℕ) (words : List (List ℕ)) → texts_of (placed at words) ≡ words
unfolding placed
texts_of-placed at [] = refl
texts_of-placed at (word ∷ words) = ap (λ (l : List (List ℕ)). word ∷ l) (texts_of-placed (at + length word + 1) words)

-- the texts of the pieces that are words are the runs that are
texts_of-cond : (b : Bool) (piece : Piece) (pieces : List Piece) → texts_of (cond b (piece ∷ pieces) pieces) ≡ cond b (piece.bytes ∷ texts_of pieces) (texts_of pieces)
texts_of-cond true piece pieces = refl
texts_of-cond false piece pieces = refl

texts_of-filter : (pieces : List Piece) → texts_of (filter is_word_piece pieces) ≡ filter is_word (texts_of pieces)
texts_of-filter [] = refl
texts_of-filter (piece ∷ pieces) =
    texts_of-cond (is_word_piece piece) piece (filter is_word_piece pieces)
    ∙ ap (λ (l : List (List ℕ)). cond (is_word piece.bytes) (piece.bytes ∷ l) l) (texts_of-filter pieces)

-- the words of a line
pub texts_of-placed_words_of : (line : Piece) → texts_of (placed_words_of line) ≡ words_of line.bytes
unfolding words_from words_of
texts_of-placed_words_of line =
    let runs : List (List ℕ) = slice_split is_blank (without_return line.bytes) in
    texts_of-filter (placed line.at runs) ∙ ap (filter is_word) (texts_of-placed line.at runs)

-- a line that is kept
unplaced-cond : (b : Bool) (line : PlacedLine) → map unplaced (cond b [] (line ∷ [])) ≡ cond b [] (unplaced line ∷ [])
unplaced-cond true line = refl
unplaced-cond false line = refl

unplaced-placed_kept : (line : PlacedLine) → map unplaced (placed_kept line) ≡ kept (unplaced line)
unfolding placed_kept kept
unplaced-placed_kept line = unplaced-cond (is_skipped (texts_of line.words)) line

-- the lines from a number on
unplaced-placed_numbered : (number at : ℕ) (runs : List (List ℕ)) → map unplaced (placed_numbered number (placed at runs)) ≡ numbered number runs
unfolding placed_numbered numbered placed
unplaced-placed_numbered number at [] = refl
unplaced-placed_numbered number at (run ∷ runs) =
    let line : Piece = record { at = at; bytes = run } in
    let here : PlacedLine = record { number = number; words = placed_words_of line } in
    let rest : List PlacedLine = placed_numbered (number + 1) (placed (at + length run + 1) runs) in
    map-append unplaced (placed_kept here) rest
    ∙ ap (λ (l : List TextLine). l ++ map unplaced rest) (unplaced-placed_kept here)
    ∙ ap (λ (w : List (List ℕ)). kept (record { number = number; words = w }) ++ map unplaced rest) (texts_of-placed_words_of line)
    ∙ ap (λ (l : List TextLine). kept (record { number = number; words = words_of run }) ++ l) (unplaced-placed_numbered (number + 1) (at + length run + 1) runs)

-- the lines of a text with the places of their words are its lines
pub unplaced-placed_lines_of : (text : List ℕ) → map unplaced (placed_lines_of text) ≡ lines_of text
unfolding placed_lines_of lines_of
unplaced-placed_lines_of text = unplaced-placed_numbered 1 0 (slice_split is_line_feed text)
