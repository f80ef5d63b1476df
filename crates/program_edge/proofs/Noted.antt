-- The words of a tag
use Rattle.std.proofs.Common.{◌≡◌, ℕ, List, [], ◌∷◌, ◌++◌, refl, ap}
use Rattle.program_edge.specs.OpenedWords.{note_of, with_byte, latest_first, oldest_first, words_noted}

note_stands_first : (word numbers : List ℕ) → latest_first (note_of word ++ numbers) ≡ word ∷ latest_first numbers
note_stands_first [] numbers = refl
note_stands_first (byte ∷ word) numbers = ap (with_byte byte) (note_stands_first word numbers)

-- a word that was noted comes last
pub noted_last : (word numbers : List ℕ) → words_noted (note_of word ++ numbers) ≡ words_noted numbers ++ word ∷ []
noted_last word numbers = ap oldest_first (note_stands_first word numbers)
