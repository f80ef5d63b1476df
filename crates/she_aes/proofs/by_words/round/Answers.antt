use Rattle.she_aes.specs.Cipher.{sub_bytes, shift_rows, mix_columns}
use Rattle.she_aes.proofs.PairLanes.{IsBlock-sub_bytes, IsBlock-shift_rows, IsBlock-mix_columns}
use Rattle.she_aes.proofs.by_words.round.Goals as goal

pub returns : goal.returns
returns c =
    λ s block key is.
    let boxed = IsBlock-sub_bytes s in
    let rows = IsBlock-shift_rows (sub_bytes s) boxed in
    let mixed = IsBlock-mix_columns (shift_rows (sub_bytes s)) rows in
    let e0 = c.sub_bytes.ensures s block is in
    let e1 = c.shifted.ensures (sub_bytes s) boxed e0 in
    let e2 = c.mixed.ensures (shift_rows (sub_bytes s)) rows e1 in
    c.with_key.ensures (mix_columns (shift_rows (sub_bytes s))) mixed key e2
