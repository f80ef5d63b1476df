use Rattle.std.proofs.Common.{ap, slice_index}
use Rattle.she_aes.specs.Cipher.{circulant, mix_columns}
use Rattle.she_aes.proofs.CipherFacts.{IsBlock-bytes}
use Rattle.she_aes.specs.Columns.{in_columns}
use Rattle.she_aes.proofs.columns.mixed.Goals as goal

pub returns : goal.returns
unfolding in_columns mix_columns circulant
returns c =
    λ s block is.
    let h = IsBlock-bytes s block in
    let e0 = c.mixed_column.ensures (slice_index s 0) (slice_index s 1) (slice_index s 2) (slice_index s 3) (h 0) (h 1) (h 2) (h 3) (ap (λ x. slice_index x 0) is) in
    let e1 = c.mixed_column-2.ensures (slice_index s 4) (slice_index s 5) (slice_index s 6) (slice_index s 7) (h 4) (h 5) (h 6) (h 7) (ap (λ x. slice_index x 1) is) in
    let e2 = c.mixed_column-3.ensures (slice_index s 8) (slice_index s 9) (slice_index s 10) (slice_index s 11) (h 8) (h 9) (h 10) (h 11) (ap (λ x. slice_index x 2) is) in
    let e3 = c.mixed_column-4.ensures (slice_index s 12) (slice_index s 13) (slice_index s 14) (slice_index s 15) (h 12) (h 13) (h 14) (h 15) (ap (λ x. slice_index x 3) is) in
    cc
