use Rattle.std.proofs.Common.{sym}
use Rattle.basics.specs.Numbers.{number_of, bytes_of}
use Rattle.she_aes.specs.Field.{product, cancelled, remainder, mul}
use Rattle.she_aes.specs.Cipher.{xor_blocks, add_round_key, shift_rows, circulant, mix_columns, xor_words, rot_word, power_of_x, rcon, words_up_to, round_key}
use Rattle.she_aes.proofs.CallerLemmas.{tabled_byte, tabled_word, tabled_added, tabled_next, tabled_words, tabled_bytes, tabled_rounds, tabled_cipher}
use Rattle.she_aes.proofs.CallerLemmas.{enc_by_table}
use Rattle.she_cmac.specs.Cmac.{dbl, before_last, block_at, front_blocks, last_piece}
use Rattle.she_cmac.proofs.CmacByTable.{tabled_zero, tabled_last, tabled_chain, cmac_by_table, cmac_by_table_is}
use Rattle.she_cmac.proofs.laws.example_of_16_bytes.Goals as goal

pub returns : goal.returns
unfolding number_of bytes_of product cancelled remainder mul xor_blocks add_round_key shift_rows circulant mix_columns xor_words rot_word power_of_x rcon words_up_to round_key tabled_byte tabled_word tabled_added tabled_next tabled_words tabled_bytes tabled_rounds tabled_cipher enc_by_table dbl before_last block_at front_blocks last_piece tabled_zero tabled_last tabled_chain cmac_by_table
returns c = sym (cmac_by_table_is _ _)
