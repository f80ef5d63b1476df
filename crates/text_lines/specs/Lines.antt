-- What a text means as numbered lines of words.
use Rattle.std.specs.Prelude.{ℕ, ◌+◌, ◌-◌, ◌==◌, ◌||◌, nat_lt, Bool, true, if◌then◌else◌, List, [], ◌∷◌, ◌++◌, length}
use Rattle.std.specs.Prelude.{take, slice_index, filter}
use Rattle.std.specs.List.{slice_split}

-- a line feed ends a line
abbrev pub is_line_feed : ℕ → Bool
is_line_feed c = c == 10

-- space and tab stand between words
abbrev pub is_blank : ℕ → Bool
is_blank c = (c == 32) || (c == 9)

-- a blank or a line feed stands after a word, if the text goes on
abbrev pub ends_word : ℕ → Bool
ends_word c = is_blank c || is_line_feed c

-- the last byte of a line, and 0 if it has none
abbrev pub last_byte : List ℕ → ℕ
last_byte bytes = slice_index bytes (length bytes - 1)

-- a line without the carriage return right before its end
abbrev pub without_return : List ℕ → List ℕ
without_return bytes = if last_byte bytes == 13 then take (length bytes - 1) bytes else bytes

-- a run of bytes that isn't empty
abbrev pub is_word : List ℕ → Bool
is_word run = nat_lt 0 (length run)

-- the words of a line: its longest runs of bytes other than blanks
unfoldable pub words_of : List ℕ → List (List ℕ)
words_of line = filter is_word (slice_split is_blank (without_return line))

-- a line with its number, which counts from 1, and its words
pub record TextLine : Type 0 where
  pub number : ℕ
  pub words : List (List ℕ)

-- a line without words, or whose first word begins with `#`
unfoldable pub is_skipped : List (List ℕ) → Bool
is_skipped [] = true
is_skipped (word ∷ _) = slice_index word 0 == 35

-- a line, unless it is skipped
unfoldable pub kept : TextLine → List TextLine
kept line = if is_skipped line.words then [] else line ∷ []

-- the lines from this number on that aren't skipped; those that are skipped count too
unfoldable pub numbered : ℕ → List (List ℕ) → List TextLine
numbered number [] = []
numbered number (line ∷ lines) = kept (record { number = number; words = words_of line }) ++ numbered (number + 1) lines

-- the lines of a text that aren't skipped. What stands after the last line feed is a line too; if it is empty, it has
-- no words.
unfoldable pub lines_of : List ℕ → List TextLine
lines_of text = numbered 1 (slice_split is_line_feed text)
