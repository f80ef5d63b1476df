use Rattle.std.proofs.Common.{refl, ◌∙◌, [], ◌∷◌, slice_index}
use Rattle.basics.proofs.CallerLemmas.{from_be_bytes-32}
use Rattle.she_aes.specs.Columns.{in_columns}
use Rattle.she_aes.proofs.columns.columns_of.Goals as goal

pub returns : goal.returns
unfolding in_columns
returns c =
    let s = c.args.bytes.now in
    let e0 = c.from_be_bytes.ensures ∙ from_be_bytes-32 (slice_index s 0 ∷ slice_index s 1 ∷ slice_index s 2 ∷ slice_index s 3 ∷ []) refl in
    let e1 = c.from_be_bytes-2.ensures ∙ from_be_bytes-32 (slice_index s 4 ∷ slice_index s 5 ∷ slice_index s 6 ∷ slice_index s 7 ∷ []) refl in
    let e2 = c.from_be_bytes-3.ensures ∙ from_be_bytes-32 (slice_index s 8 ∷ slice_index s 9 ∷ slice_index s 10 ∷ slice_index s 11 ∷ []) refl in
    let e3 = c.from_be_bytes-4.ensures ∙ from_be_bytes-32 (slice_index s 12 ∷ slice_index s 13 ∷ slice_index s 14 ∷ slice_index s 15 ∷ []) refl in
    cc
