-- Frames of the worked runs, computed with the S-box read from a table
use Rattle.std.specs.Prelude.{◌≡◌, ℕ, List, [], ◌∷◌, ◌++◌}
use Rattle.std.proofs.Common.{ap}
use Rattle.basics.specs.Numbers.{bytes_of, number_of}
use Rattle.she_aes.specs.Field.{product, cancelled, remainder, mul}
use Rattle.she_aes.specs.Cipher.{xor_blocks, add_round_key, shift_rows, circulant, mix_columns, xor_words, rot_word, power_of_x, rcon, words_up_to, round_key}
use Rattle.she_aes.proofs.CallerLemmas.{tabled_byte, tabled_word, tabled_added, tabled_next, tabled_words, tabled_bytes, tabled_rounds, tabled_cipher}
use Rattle.she_aes.proofs.CallerLemmas.{enc_by_table}
use Rattle.she_cmac.specs.Cmac.{dbl, before_last, block_at, front_blocks, last_piece}
use Rattle.she_cmac.proofs.CallerLemmas.{tabled_zero, tabled_last, tabled_chain, cmac_by_table, cmac_by_table_is}
use Rattle.secured_pdu.specs.Frame.{authenticated_input, assembled, secured_frame}
use Rattle.bus_rows.specs.Buses.{bus_key, bus_payload, altered_payload, first_frame, later_frame, last_frame}

-- the frame with this payload and freshness
unfoldable tabled_frame : List ℕ → ℕ → List ℕ
tabled_frame payload freshness =
    assembled payload freshness (cmac_by_table bus_key (authenticated_input 0x6bc1 payload freshness))

tabled_frame_is : (payload : List ℕ) (freshness : ℕ) → tabled_frame payload freshness ≡ secured_frame bus_key 0x6bc1 payload freshness
unfolding tabled_frame secured_frame
tabled_frame_is payload freshness =
    ap (λ mac. assembled payload freshness mac) (cmac_by_table_is bus_key (authenticated_input 0x6bc1 payload freshness))

pub first_frame_is : first_frame ≡ secured_frame bus_key 0x6bc1 bus_payload 0xe93d7e117393172a
unfolding bytes_of number_of product cancelled remainder mul xor_blocks add_round_key shift_rows circulant mix_columns xor_words rot_word power_of_x rcon words_up_to round_key tabled_byte tabled_word tabled_added tabled_next tabled_words tabled_bytes tabled_rounds tabled_cipher enc_by_table dbl before_last block_at front_blocks last_piece tabled_zero tabled_last tabled_chain cmac_by_table authenticated_input assembled tabled_frame
first_frame_is = tabled_frame_is bus_payload 0xe93d7e117393172a

pub later_frame_is : later_frame ≡ secured_frame bus_key 0x6bc1 bus_payload 0xe93d7e117393172e
unfolding bytes_of number_of product cancelled remainder mul xor_blocks add_round_key shift_rows circulant mix_columns xor_words rot_word power_of_x rcon words_up_to round_key tabled_byte tabled_word tabled_added tabled_next tabled_words tabled_bytes tabled_rounds tabled_cipher enc_by_table dbl before_last block_at front_blocks last_piece tabled_zero tabled_last tabled_chain cmac_by_table authenticated_input assembled tabled_frame
later_frame_is = tabled_frame_is bus_payload 0xe93d7e117393172e

pub last_frame_is : last_frame ≡ secured_frame bus_key 0x6bc1 bus_payload 0xffffffffffffffff
unfolding bytes_of number_of product cancelled remainder mul xor_blocks add_round_key shift_rows circulant mix_columns xor_words rot_word power_of_x rcon words_up_to round_key tabled_byte tabled_word tabled_added tabled_next tabled_words tabled_bytes tabled_rounds tabled_cipher enc_by_table dbl before_last block_at front_blocks last_piece tabled_zero tabled_last tabled_chain cmac_by_table authenticated_input assembled tabled_frame
last_frame_is = tabled_frame_is bus_payload 0xffffffffffffffff

-- bus_payload with e93d7e117393182a
abbrev pub repeated_frame : List ℕ
repeated_frame = bus_payload ++ 0x2a ∷ 0xbc ∷ 0x66 ∷ 0x78 ∷ []

pub repeated_frame_is : repeated_frame ≡ secured_frame bus_key 0x6bc1 bus_payload 0xe93d7e117393182a
unfolding bytes_of number_of product cancelled remainder mul xor_blocks add_round_key shift_rows circulant mix_columns xor_words rot_word power_of_x rcon words_up_to round_key tabled_byte tabled_word tabled_added tabled_next tabled_words tabled_bytes tabled_rounds tabled_cipher enc_by_table dbl before_last block_at front_blocks last_piece tabled_zero tabled_last tabled_chain cmac_by_table authenticated_input assembled tabled_frame
repeated_frame_is = tabled_frame_is bus_payload 0xe93d7e117393182a

-- altered_payload with e93d7e117393182a
abbrev pub other_repeated_frame : List ℕ
other_repeated_frame = altered_payload ++ 0x2a ∷ 0x43 ∷ 0x91 ∷ 0xf0 ∷ []

pub other_repeated_frame_is : other_repeated_frame ≡ secured_frame bus_key 0x6bc1 altered_payload 0xe93d7e117393182a
unfolding bytes_of number_of product cancelled remainder mul xor_blocks add_round_key shift_rows circulant mix_columns xor_words rot_word power_of_x rcon words_up_to round_key tabled_byte tabled_word tabled_added tabled_next tabled_words tabled_bytes tabled_rounds tabled_cipher enc_by_table dbl before_last block_at front_blocks last_piece tabled_zero tabled_last tabled_chain cmac_by_table authenticated_input assembled tabled_frame
other_repeated_frame_is = tabled_frame_is altered_payload 0xe93d7e117393182a

-- altered_payload with e93d7e117393172a
abbrev pub other_frame : List ℕ
other_frame = altered_payload ++ 0x2a ∷ 0x4f ∷ 0x4e ∷ 0x34 ∷ []

pub other_frame_is : other_frame ≡ secured_frame bus_key 0x6bc1 altered_payload 0xe93d7e117393172a
unfolding bytes_of number_of product cancelled remainder mul xor_blocks add_round_key shift_rows circulant mix_columns xor_words rot_word power_of_x rcon words_up_to round_key tabled_byte tabled_word tabled_added tabled_next tabled_words tabled_bytes tabled_rounds tabled_cipher enc_by_table dbl before_last block_at front_blocks last_piece tabled_zero tabled_last tabled_chain cmac_by_table authenticated_input assembled tabled_frame
other_frame_is = tabled_frame_is altered_payload 0xe93d7e117393172a
