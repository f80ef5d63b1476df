-- The state and the round keys as four words: the big-endian number of each column.
use Rattle.std.specs.Prelude.{ℕ, List, [], ◌∷◌}
use Rattle.basics.specs.Numbers.{number_of}
use Rattle.she_aes.specs.Cipher.{column}

-- the number of each column
unfoldable pub in_columns : List ℕ → List ℕ
in_columns s = number_of (column s 0) ∷ number_of (column s 1) ∷ number_of (column s 2) ∷ number_of (column s 3) ∷ []
