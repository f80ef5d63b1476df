-- The lemmas that crates above cite.
pub use Rattle.she_aes.proofs.CipherByTable.{cbc_by_table_is, enc_by_table_is}
unfoldable pub use Rattle.she_aes.proofs.CipherByTable.{cbc_by_table, enc_by_table, tabled_added, tabled_byte}
unfoldable pub use Rattle.she_aes.proofs.CipherByTable.{tabled_bytes, tabled_cipher, tabled_next, tabled_rounds}
unfoldable pub use Rattle.she_aes.proofs.CipherByTable.{tabled_word, tabled_words}
pub use Rattle.she_aes.proofs.ModesUndone.{cbc-cbc_inverse, cbc_inverse-cbc}
pub use Rattle.she_aes.proofs.Undoing.{dec-enc}
pub use Rattle.she_aes.proofs.CipherFacts.{IsBlock-enc, IsBlock-xor_blocks, IsBlock-zero_block, length-enc}
pub use Rattle.she_aes.proofs.ModeLaws.{All-cbc, All-cbc_inverse, length-cbc, length-cbc_inverse}
