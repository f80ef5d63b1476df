-- What a span, and a line of spans, say of the text that they were cut from.
use Rattle.std.specs.Prelude.{ℕ, ◌+◌, ◌≤◌, List, take, drop, map, All}
use Rattle.text_lines.specs.declared.span.Span.{Span}
use Rattle.text_lines.specs.declared.span.Cut.{Cut}
use Rattle.text_lines.specs.Places.{Piece, PlacedLine}

-- the bytes of the text at a span
abbrev pub word_at : List ℕ → Span → List ℕ
word_at text span = take span.len (drop span.at text)

-- the word at a span, with its place
abbrev pub piece_at : List ℕ → Span → Piece
piece_at text span = record { at = span.at; bytes = word_at text span }

-- the line that a cut stands for
abbrev pub line_at : List ℕ → Cut → PlacedLine
line_at text cut = record { number = cut.line; words = map (piece_at text) cut.words }

-- the spans end within a text of this length
abbrev pub EndWithin : ℕ → List Span → Type 0
EndWithin len spans = All (λ span. span.at + span.len ≤ len) spans
