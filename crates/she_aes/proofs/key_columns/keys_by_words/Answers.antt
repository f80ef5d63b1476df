use Rattle.she_aes.proofs.KeyColumns.{keys_in_turn}
use Rattle.she_aes.proofs.key_columns.keys_by_words.Goals as goal

pub returns : goal.returns
returns c =
    λ block. keys_in_turn c.args.key.now block c.columns_of-k0.ensures c.next_by_words-k1.ensures c.next_by_words-k2.ensures c.next_by_words-k3.ensures c.next_by_words-k4.ensures c.next_by_words-k5.ensures c.next_by_words-k6.ensures c.next_by_words-k7.ensures c.next_by_words-k8.ensures c.next_by_words-k9.ensures c.next_by_words-k10.ensures c.bytes_of.ensures c.bytes_of-2.ensures c.bytes_of-3.ensures c.bytes_of-4.ensures c.bytes_of-5.ensures c.bytes_of-6.ensures c.bytes_of-7.ensures c.bytes_of-8.ensures c.bytes_of-9.ensures c.bytes_of-10.ensures
