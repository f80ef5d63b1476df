use Rattle.she_aes.proofs.CipherFacts.{IsBlock-from}
use Rattle.she_aes.proofs.KeyPairs.{added_in_turn}
use Rattle.she_aes.proofs.expansion.added_keys.Goals as goal

pub returns : goal.returns
returns c =
    added_in_turn c.args.key.now (IsBlock-from c.args.key.now c.told-key c.fits-key) c.pairs-k0.ensures c.next_round_key-k1.ensures c.next_round_key-k2.ensures c.next_round_key-k3.ensures c.next_round_key-k4.ensures c.next_round_key-k5.ensures c.next_round_key-k6.ensures c.next_round_key-k7.ensures c.next_round_key-k8.ensures c.next_round_key-k9.ensures c.next_round_key-k10.ensures c.added.ensures c.added-2.ensures c.added-3.ensures c.added-4.ensures c.added-5.ensures c.added-6.ensures c.added-7.ensures c.added-8.ensures c.added-9.ensures c.bytes_without_constant.ensures
