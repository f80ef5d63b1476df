use Rattle.std.proofs.Common.{ap, ◌∙◌, slice_index}
use Rattle.std.specs.Int.{w32, to_be_bytes}
use Rattle.she_aes.proofs.CipherFacts.{IsBlock-bytes}
use Rattle.she_aes.specs.Columns.{in_columns}
use Rattle.she_aes.proofs.ColumnWords.{bytes_again}
use Rattle.she_aes.proofs.RoundTables.{by_columns}
use Rattle.she_aes.proofs.columns.bytes_of.Goals as goal

pub returns : goal.returns
unfolding in_columns
returns c =
    λ s block is.
    let h = IsBlock-bytes s block in
    let e0 = c.to_be_bytes.ensures ∙ ap (λ x. to_be_bytes w32 (slice_index x 0)) is ∙ bytes_again (slice_index s 0) (slice_index s 1) (slice_index s 2) (slice_index s 3) (h 0) (h 1) (h 2) (h 3) in
    let e1 = c.to_be_bytes-2.ensures ∙ ap (λ x. to_be_bytes w32 (slice_index x 1)) is ∙ bytes_again (slice_index s 4) (slice_index s 5) (slice_index s 6) (slice_index s 7) (h 4) (h 5) (h 6) (h 7) in
    let e2 = c.to_be_bytes-3.ensures ∙ ap (λ x. to_be_bytes w32 (slice_index x 2)) is ∙ bytes_again (slice_index s 8) (slice_index s 9) (slice_index s 10) (slice_index s 11) (h 8) (h 9) (h 10) (h 11) in
    let e3 = c.to_be_bytes-4.ensures ∙ ap (λ x. to_be_bytes w32 (slice_index x 3)) is ∙ bytes_again (slice_index s 12) (slice_index s 13) (slice_index s 14) (slice_index s 15) (h 12) (h 13) (h 14) (h 15) in
    by_columns s c.to_be_bytes.result c.to_be_bytes-2.result c.to_be_bytes-3.result c.to_be_bytes-4.result block.size e0 e1 e2 e3
