-- Words as numbers, which a tag has
use Rattle.std.specs.Prelude.{ℕ, zero, suc, List, [], ◌∷◌, ◌++◌, map}

-- a word as numbers: each byte, raised by one, and a zero after the last
abbrev pub note_of : List ℕ → List ℕ
note_of word = map suc word ++ 0 ∷ []

-- one byte before the arguments that follow it
abbrev pub with_byte : ℕ → List (List ℕ) → List (List ℕ)
with_byte byte [] = []
with_byte byte (word ∷ words) = (byte ∷ word) ∷ words

-- the arguments that such numbers are, the latest first
abbrev pub latest_first : List ℕ → List (List ℕ)
latest_first [] = []
latest_first (zero ∷ rest) = [] ∷ latest_first rest
latest_first (suc byte ∷ rest) = with_byte byte (latest_first rest)

-- the newest of the arguments stands first among the numbers, and last here
abbrev pub oldest_first : List (List ℕ) → List (List ℕ)
oldest_first [] = []
oldest_first (word ∷ words) = oldest_first words ++ word ∷ []

abbrev pub words_noted : List ℕ → List (List ℕ)
words_noted numbers = oldest_first (latest_first numbers)
