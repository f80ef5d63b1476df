use Rattle.std.proofs.Common.{ap, ◌∙◌, [], ◌∷◌, slice_index}
use Rattle.she_aes.specs.Cipher.{shift_rows}
use Rattle.she_aes.specs.Columns.{in_columns}
use Rattle.she_aes.proofs.columns.shifted.Goals as goal

pub returns : goal.returns
unfolding shift_rows
returns c =
    λ s block is. c.columns_of.ensures ∙ ap (λ b. in_columns (slice_index b 0 ∷ slice_index b 5 ∷ slice_index b 10 ∷ slice_index b 15 ∷ slice_index b 4 ∷ slice_index b 9 ∷ slice_index b 14 ∷ slice_index b 3 ∷ slice_index b 8 ∷ slice_index b 13 ∷ slice_index b 2 ∷ slice_index b 7 ∷ slice_index b 12 ∷ slice_index b 1 ∷ slice_index b 6 ∷ slice_index b 11 ∷ [])) (c.bytes_of.ensures s block is)
