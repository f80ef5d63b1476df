-- Where the lines and words of a text stand. Places count the bytes of the text from 0.
use Rattle.std.specs.Prelude.{ℕ, ◌+◌, Bool, if◌then◌else◌, List, [], ◌∷◌, ◌++◌, length, filter, map}
use Rattle.std.specs.List.{slice_split}
use Rattle.text_lines.specs.Lines.{TextLine, is_line_feed, is_blank, without_return, is_word, is_skipped}

-- a run of bytes of the text, and the place of its first byte
pub record Piece : Type 0 where
  pub at : ℕ
  pub bytes : List ℕ

-- runs of bytes that follow one another from a place on, with one separator between each two
unfoldable pub placed : ℕ → List (List ℕ) → List Piece
placed at [] = []
placed at (run ∷ runs) = record { at = at; bytes = run } ∷ placed (at + length run + 1) runs

-- a piece that isn't empty
abbrev pub is_word_piece : Piece → Bool
is_word_piece piece = is_word piece.bytes

-- the longest runs of bytes other than blanks, of bytes that begin at this place
unfoldable pub words_from : ℕ → List ℕ → List Piece
words_from at bytes = filter is_word_piece (placed at (slice_split is_blank bytes))

-- the words of a line
abbrev pub placed_words_of : Piece → List Piece
placed_words_of line = words_from line.at (without_return line.bytes)

-- the words without their places
abbrev pub texts_of : List Piece → List (List ℕ)
texts_of words = map (λ word. word.bytes) words

-- a line with its number, which counts from 1, and its words
pub record PlacedLine : Type 0 where
  pub number : ℕ
  pub words : List Piece

-- the line without the places of its words
abbrev pub unplaced : PlacedLine → TextLine
unplaced line = record { number = line.number; words = texts_of line.words }

-- a line, unless it is skipped
unfoldable pub placed_kept : PlacedLine → List PlacedLine
placed_kept line = if is_skipped (texts_of line.words) then [] else line ∷ []

-- the lines from this number on that aren't skipped; those that are skipped count too
unfoldable pub placed_numbered : ℕ → List Piece → List PlacedLine
placed_numbered number [] = []
placed_numbered number (line ∷ lines) =
    placed_kept (record { number = number; words = placed_words_of line }) ++ placed_numbered (number + 1) lines

-- the lines of a text that aren't skipped, with the places of their words
unfoldable pub placed_lines_of : List ℕ → List PlacedLine
placed_lines_of text = placed_numbered 1 (placed 0 (slice_split is_line_feed text))
