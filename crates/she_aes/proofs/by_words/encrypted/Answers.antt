use Rattle.std.proofs.Common.{◌∙◌}
use Rattle.she_aes.proofs.KeyColumns.{all_in_columns}
use Rattle.she_aes.proofs.by_words.encrypted.Goals as goal

pub returns-clause-value : goal.returns-clause-value
returns-clause-value c =
    λ are. let block = c.bytes.ensures.is_block in
    let first = c.with_key-s0.ensures c.args.block.now block are.key_is_block (rw c.bytes.ensures.value at c.columns_of.ensures) in
    c.of.ensures.value ∙ all_in_columns c.args.key.now c.args.block.now c.args.plain.now are block first c.round-s1.ensures c.round-s2.ensures c.round-s3.ensures c.round-s4.ensures c.round-s5.ensures c.round-s6.ensures c.round-s7.ensures c.round-s8.ensures c.round-s9.ensures c.last_round-s10.ensures c.bytes_of.ensures
