use Rattle.std.proofs.Common.{sym}
use Rattle.she_aes.specs.Field.{product, cancelled, remainder, mul}
use Rattle.she_aes.specs.Cipher.{xor_blocks, add_round_key, shift_rows, circulant, mix_columns, xor_words, rot_word, power_of_x, rcon, words_up_to, round_key}
use Rattle.she_aes.proofs.CipherByTable.{tabled_byte, tabled_word, tabled_added, tabled_next, tabled_words, tabled_bytes, tabled_rounds, tabled_cipher, enc_by_table, enc_by_table_is}
use Rattle.she_aes.proofs.laws.example_of_appendix_b.Goals as goal

-- by computation
pub returns : goal.returns
unfolding product cancelled remainder mul xor_blocks add_round_key shift_rows circulant mix_columns xor_words rot_word power_of_x rcon words_up_to round_key tabled_byte tabled_word tabled_added tabled_next tabled_words tabled_bytes tabled_rounds tabled_cipher enc_by_table
returns c = sym (enc_by_table_is _ _)
