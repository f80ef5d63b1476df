-- Lines that are written with single spaces and lower-case digits.
use Rattle.std.specs.Prelude.{ℕ, ◌==◌, ◌&&◌, not, nat_lt, Bool, false, List, [], ◌∷◌, ◌++◌, length, slice_index}
use Rattle.std.specs.List.{join_with_byte, list_all}
use Rattle.hex.specs.Hex.{encode_lower}
use Rattle.text_lines.specs.Lines.{is_line_feed, is_blank}

-- a line as it is written: its words with one space, which is 32, between each two, and a line feed
abbrev pub written : List (List ℕ) → List ℕ
written words = join_with_byte 32 words ++ 10 ∷ []

-- a byte that may stand in a written word: no line feed, blank or carriage return
abbrev pub is_word_byte : ℕ → Bool
is_word_byte c = not (is_line_feed c) && not (is_blank c) && not (c == 13)

-- a word that may be written: such bytes, at least one
abbrev pub is_plain_word : List ℕ → Bool
is_plain_word word = nat_lt 0 (length word) && list_all is_word_byte word

-- words that may be written as a line that isn't skipped: at least one, and the first doesn't begin with `#`
abbrev pub is_writable : List (List ℕ) → Bool
is_writable [] = false
is_writable (word ∷ words) = not (slice_index word 0 == 35) && list_all is_plain_word (word ∷ words)

-- bytes of any number as a word: no bytes are `-`, which is 45
abbrev pub bytes_word : List ℕ → List ℕ
bytes_word [] = 45 ∷ []
bytes_word (b ∷ bytes) = encode_lower (b ∷ bytes)
