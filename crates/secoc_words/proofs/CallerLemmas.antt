-- The lemmas that crates above cite.
pub use Rattle.secoc_words.proofs.WrittenKinds.{blocks_word, data_id_form-encode, key_form-encode, pair_encode}
pub use Rattle.secoc_words.proofs.CountingLaws.{KeepsCounters-rise, last_accepted-more, next_counter-verdict}
