-- The tables of a round.
use Rattle.std.specs.Prelude.{◌≡◌, ◌<◌, ℕ, List, [], ◌∷◌, slice_index}
use Rattle.basics.specs.Numbers.{number_of}
use Rattle.she_aes.specs.Field.{sub_byte}
use Rattle.she_aes.specs.Cipher.{circulant}
use Rattle.she_aes.specs.declared.by_tables.TheConstants.{ROW_0, ROW_1, ROW_2, ROW_3}

-- entry s of each table is the number of a column: the one that MixColumns gives for the S-box of s in its row and
-- zeros elsewhere
abbrev pub mixed_column : List ℕ → ℕ
mixed_column column = number_of (circulant 2 3 1 1 column)

pub record AreRoundTables : Type 0 where
  pub row_0 : (s : ℕ) → s < 256 → slice_index ROW_0 s ≡ mixed_column (sub_byte s ∷ 0 ∷ 0 ∷ 0 ∷ [])
  pub row_1 : (s : ℕ) → s < 256 → slice_index ROW_1 s ≡ mixed_column (0 ∷ sub_byte s ∷ 0 ∷ 0 ∷ [])
  pub row_2 : (s : ℕ) → s < 256 → slice_index ROW_2 s ≡ mixed_column (0 ∷ 0 ∷ sub_byte s ∷ 0 ∷ [])
  pub row_3 : (s : ℕ) → s < 256 → slice_index ROW_3 s ≡ mixed_column (0 ∷ 0 ∷ 0 ∷ sub_byte s ∷ [])
