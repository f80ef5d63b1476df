use Rattle.she_aes.specs.Cipher.{sub_bytes, shift_rows}
use Rattle.she_aes.proofs.PairLanes.{IsBlock-sub_bytes, IsBlock-shift_rows}
use Rattle.she_aes.proofs.by_words.last_round.Goals as goal

pub returns : goal.returns
returns c =
    λ s block key is.
    let boxed = IsBlock-sub_bytes s in
    let rows = IsBlock-shift_rows (sub_bytes s) boxed in
    c.with_key.ensures (shift_rows (sub_bytes s)) rows key (c.shifted.ensures (sub_bytes s) boxed (c.sub_bytes.ensures s block is))
