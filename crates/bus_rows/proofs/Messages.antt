-- Messages of key updates, computed step by step with the S-box read from a table
use Rattle.std.specs.Prelude.{◌≡◌, ℕ, ◌+◌, ◌*◌, ◌^◌, List, [], ◌∷◌, ◌++◌, get_or}
use Rattle.std.proofs.Common.{refl, sym, ◌∙◌, ap, arith}
use Rattle.std.specs.List.{concat}
use Rattle.basics.specs.Numbers.{bytes_of, number_of}
use Rattle.basics.proofs.CallerLemmas.{IsBytes-bytes_of}
use Rattle.she_aes.specs.Field.{product, cancelled, remainder, mul}
use Rattle.she_aes.specs.Cipher.{IsBlock, zero_block, xor_blocks, add_round_key, shift_rows, circulant, mix_columns, xor_words, rot_word, power_of_x, rcon, words_up_to, round_key, enc}
use Rattle.she_aes.proofs.CallerLemmas.{tabled_byte, tabled_word, tabled_added, tabled_next, tabled_words, tabled_bytes, tabled_rounds, tabled_cipher, enc_by_table, enc_by_table_is, cbc_by_table, cbc_by_table_is}
use Rattle.she_aes.specs.Modes.{cbc}
use Rattle.she_kdf.specs.Derivation.{kdf}
use Rattle.she_kdf.proofs.CallerLemmas.{tabled_out, kdf_by_table, kdf_by_table_is}
use Rattle.she_kdf.specs.declared.Constant.TheVariants.{Enc, Mac}
use Rattle.she_cmac.specs.Cmac.{dbl, before_last, block_at, front_blocks, last_piece, cmac}
use Rattle.she_cmac.proofs.CallerLemmas.{tabled_zero, tabled_last, tabled_chain, cmac_by_table, cmac_by_table_is}
use Rattle.memory_update.specs.declared.messages.Update.{Update}
use Rattle.memory_update.specs.Messages.{two_blocks, head_number, plain, request_mac, Builds, Confirms}
use Rattle.bus_rows.specs.Buses.{numbered_uid, master_key, bus_key, clear_flags, update_of}
use Rattle.bus_rows.specs.LoadRows.{example_request, example_reply, other_update}
use Rattle.bus_rows.proofs.WorkedRuns.{IsUid-left, is_update}

-- the key that the example loads
abbrev pub new_key : List ℕ
new_key = 0x0f ∷ 0x0e ∷ 0x0d ∷ 0x0c ∷ 0x0b ∷ 0x0a ∷ 0x09 ∷ 0x08 ∷ 0x07 ∷ 0x06 ∷ 0x05 ∷ 0x04 ∷ 0x03 ∷ 0x02 ∷ 0x01 ∷ 0x00 ∷ []

abbrev pub example_update : Update
example_update = update_of (numbered_uid 1) 4 1 1 clear_flags new_key

-- what encrypts M2 under the master key
abbrev request_key : List ℕ
request_key = 0x11 ∷ 0x8a ∷ 0x46 ∷ 0x44 ∷ 0x7a ∷ 0x77 ∷ 0x0d ∷ 0x87 ∷ 0x82 ∷ 0x8a ∷ 0x69 ∷ 0xc2 ∷ 0x22 ∷ 0xe2 ∷ 0xd1 ∷ 0x7e ∷ []

-- what M3 is made with
abbrev request_mac_key : List ℕ
request_mac_key = 0x2e ∷ 0xbb ∷ 0x2a ∷ 0x3d ∷ 0xa6 ∷ 0x2d ∷ 0xbd ∷ 0x64 ∷ 0xb1 ∷ 0x8b ∷ 0xa6 ∷ 0x49 ∷ 0x3e ∷ 0x9f ∷ 0xbe ∷ 0x22 ∷ []

-- what encrypts M4 under the new key
abbrev reply_key : List ℕ
reply_key = 0xed ∷ 0x2d ∷ 0xe7 ∷ 0x86 ∷ 0x4a ∷ 0x47 ∷ 0xf6 ∷ 0xba ∷ 0xc3 ∷ 0x19 ∷ 0xa9 ∷ 0xdc ∷ 0x49 ∷ 0x6a ∷ 0x78 ∷ 0x8f ∷ []

-- what M5 is made with
abbrev reply_mac_key : List ℕ
reply_mac_key = 0xec ∷ 0x93 ∷ 0x86 ∷ 0xfe ∷ 0xfa ∷ 0xa1 ∷ 0xc5 ∷ 0x98 ∷ 0x24 ∷ 0x61 ∷ 0x44 ∷ 0x34 ∷ 0x3d ∷ 0xe5 ∷ 0xf2 ∷ 0x6a ∷ []

-- what encrypts M2 under the bus key
abbrev other_key : List ℕ
other_key = 0xdd ∷ 0xaf ∷ 0x31 ∷ 0xb7 ∷ 0x87 ∷ 0xa3 ∷ 0x58 ∷ 0xd0 ∷ 0xcc ∷ 0x39 ∷ 0x50 ∷ 0xef ∷ 0x86 ∷ 0xef ∷ 0x65 ∷ 0xb0 ∷ []

-- what M3 is made with under it
abbrev other_mac_key : List ℕ
other_mac_key = 0xf6 ∷ 0xf2 ∷ 0x55 ∷ 0x45 ∷ 0xfb ∷ 0x4e ∷ 0xd9 ∷ 0xe2 ∷ 0x1a ∷ 0x44 ∷ 0xce ∷ 0x4c ∷ 0x5a ∷ 0xbc ∷ 0x3e ∷ 0xe3 ∷ []

request_key_is : kdf master_key Enc ≡ request_key
unfolding bytes_of number_of product cancelled remainder mul xor_blocks add_round_key shift_rows circulant mix_columns xor_words rot_word power_of_x rcon words_up_to round_key tabled_byte tabled_word tabled_added tabled_next tabled_words tabled_bytes tabled_rounds tabled_cipher enc_by_table tabled_out kdf_by_table
request_key_is = sym (kdf_by_table_is master_key Enc)

request_mac_key_is : kdf master_key Mac ≡ request_mac_key
unfolding bytes_of number_of product cancelled remainder mul xor_blocks add_round_key shift_rows circulant mix_columns xor_words rot_word power_of_x rcon words_up_to round_key tabled_byte tabled_word tabled_added tabled_next tabled_words tabled_bytes tabled_rounds tabled_cipher enc_by_table tabled_out kdf_by_table
request_mac_key_is = sym (kdf_by_table_is master_key Mac)

reply_key_is : kdf new_key Enc ≡ reply_key
unfolding bytes_of number_of product cancelled remainder mul xor_blocks add_round_key shift_rows circulant mix_columns xor_words rot_word power_of_x rcon words_up_to round_key tabled_byte tabled_word tabled_added tabled_next tabled_words tabled_bytes tabled_rounds tabled_cipher enc_by_table tabled_out kdf_by_table
reply_key_is = sym (kdf_by_table_is new_key Enc)

reply_mac_key_is : kdf new_key Mac ≡ reply_mac_key
unfolding bytes_of number_of product cancelled remainder mul xor_blocks add_round_key shift_rows circulant mix_columns xor_words rot_word power_of_x rcon words_up_to round_key tabled_byte tabled_word tabled_added tabled_next tabled_words tabled_bytes tabled_rounds tabled_cipher enc_by_table tabled_out kdf_by_table
reply_mac_key_is = sym (kdf_by_table_is new_key Mac)

other_key_is : kdf bus_key Enc ≡ other_key
unfolding bytes_of number_of product cancelled remainder mul xor_blocks add_round_key shift_rows circulant mix_columns xor_words rot_word power_of_x rcon words_up_to round_key tabled_byte tabled_word tabled_added tabled_next tabled_words tabled_bytes tabled_rounds tabled_cipher enc_by_table tabled_out kdf_by_table
other_key_is = sym (kdf_by_table_is bus_key Enc)

other_mac_key_is : kdf bus_key Mac ≡ other_mac_key
unfolding bytes_of number_of product cancelled remainder mul xor_blocks add_round_key shift_rows circulant mix_columns xor_words rot_word power_of_x rcon words_up_to round_key tabled_byte tabled_word tabled_added tabled_next tabled_words tabled_bytes tabled_rounds tabled_cipher enc_by_table tabled_out kdf_by_table
other_mac_key_is = sym (kdf_by_table_is bus_key Mac)

abbrev other_m2 : List (List ℕ)
other_m2 = (0xe2 ∷ 0x93 ∷ 0x72 ∷ 0x86 ∷ 0xc1 ∷ 0xcd ∷ 0xe0 ∷ 0x00 ∷ 0xdc ∷ 0x0d ∷ 0x9f ∷ 0xf7 ∷ 0xeb ∷ 0x33 ∷ 0xfa ∷ 0x2b ∷ []) ∷ (0xb3 ∷ 0x22 ∷ 0x60 ∷ 0x70 ∷ 0x40 ∷ 0x9e ∷ 0xa1 ∷ 0x0a ∷ 0xe2 ∷ 0x3c ∷ 0xd8 ∷ 0xc5 ∷ 0xb6 ∷ 0x33 ∷ 0x10 ∷ 0x1b ∷ []) ∷ []

abbrev other_m3 : List ℕ
other_m3 = 0xc4 ∷ 0xcf ∷ 0x19 ∷ 0xeb ∷ 0x57 ∷ 0x19 ∷ 0x01 ∷ 0xc1 ∷ 0xd3 ∷ 0xa6 ∷ 0xb8 ∷ 0xa7 ∷ 0x6a ∷ 0xdc ∷ 0xc7 ∷ 0x36 ∷ []

-- what the master key's holder would put there
abbrev right_m3 : List ℕ
right_m3 = 0xf9 ∷ 0xb0 ∷ 0xd4 ∷ 0xa8 ∷ 0x3d ∷ 0x5b ∷ 0xc9 ∷ 0x1d ∷ 0x5d ∷ 0xed ∷ 0xec ∷ 0x6a ∷ 0xaf ∷ 0x3a ∷ 0x31 ∷ 0x53 ∷ []

m2_is : cbc request_key zero_block (two_blocks (plain example_update 0)) ≡ example_request.m2
unfolding bytes_of number_of product cancelled remainder mul xor_blocks add_round_key shift_rows circulant mix_columns xor_words rot_word power_of_x rcon words_up_to round_key tabled_byte tabled_word tabled_added tabled_next tabled_words tabled_bytes tabled_rounds tabled_cipher enc_by_table cbc_by_table two_blocks
m2_is = sym (cbc_by_table_is request_key zero_block (two_blocks (plain example_update 0)))

other_m2_is : cbc other_key zero_block (two_blocks (plain other_update 0)) ≡ other_m2
unfolding bytes_of number_of product cancelled remainder mul xor_blocks add_round_key shift_rows circulant mix_columns xor_words rot_word power_of_x rcon words_up_to round_key tabled_byte tabled_word tabled_added tabled_next tabled_words tabled_bytes tabled_rounds tabled_cipher enc_by_table cbc_by_table two_blocks
other_m2_is = sym (cbc_by_table_is other_key zero_block (two_blocks (plain other_update 0)))

m3_is : cmac request_mac_key (example_request.m1 ++ concat example_request.m2) ≡ example_request.m3
unfolding bytes_of number_of product cancelled remainder mul xor_blocks add_round_key shift_rows circulant mix_columns xor_words rot_word power_of_x rcon words_up_to round_key tabled_byte tabled_word tabled_added tabled_next tabled_words tabled_bytes tabled_rounds tabled_cipher enc_by_table dbl before_last block_at front_blocks last_piece tabled_zero tabled_last tabled_chain cmac_by_table
m3_is = sym (cmac_by_table_is request_mac_key (example_request.m1 ++ concat example_request.m2))

other_m3_is : cmac other_mac_key (example_request.m1 ++ concat other_m2) ≡ other_m3
unfolding bytes_of number_of product cancelled remainder mul xor_blocks add_round_key shift_rows circulant mix_columns xor_words rot_word power_of_x rcon words_up_to round_key tabled_byte tabled_word tabled_added tabled_next tabled_words tabled_bytes tabled_rounds tabled_cipher enc_by_table dbl before_last block_at front_blocks last_piece tabled_zero tabled_last tabled_chain cmac_by_table
other_m3_is = sym (cmac_by_table_is other_mac_key (example_request.m1 ++ concat other_m2))

right_m3_is : cmac request_mac_key (example_request.m1 ++ concat other_m2) ≡ right_m3
unfolding bytes_of number_of product cancelled remainder mul xor_blocks add_round_key shift_rows circulant mix_columns xor_words rot_word power_of_x rcon words_up_to round_key tabled_byte tabled_word tabled_added tabled_next tabled_words tabled_bytes tabled_rounds tabled_cipher enc_by_table dbl before_last block_at front_blocks last_piece tabled_zero tabled_last tabled_chain cmac_by_table
right_m3_is = sym (cmac_by_table_is request_mac_key (example_request.m1 ++ concat other_m2))

sealed_is : enc reply_key (bytes_of 16 (1 * 2 ^ 100 + 2 ^ 99)) ≡ 0xb4 ∷ 0x72 ∷ 0xe8 ∷ 0xd8 ∷ 0x72 ∷ 0x7d ∷ 0x70 ∷ 0xd5 ∷ 0x72 ∷ 0x95 ∷ 0xe7 ∷ 0x48 ∷ 0x49 ∷ 0xa2 ∷ 0x79 ∷ 0x17 ∷ []
unfolding bytes_of number_of product cancelled remainder mul xor_blocks add_round_key shift_rows circulant mix_columns xor_words rot_word power_of_x rcon words_up_to round_key tabled_byte tabled_word tabled_added tabled_next tabled_words tabled_bytes tabled_rounds tabled_cipher enc_by_table
sealed_is = sym (enc_by_table_is reply_key (bytes_of 16 (1 * 2 ^ 100 + 2 ^ 99)))

m4_is : two_blocks (number_of (numbered_uid 1) * 2 ^ 136 + 4 * 2 ^ 132 + 1 * 2 ^ 128 + number_of (0xb4 ∷ 0x72 ∷ 0xe8 ∷ 0xd8 ∷ 0x72 ∷ 0x7d ∷ 0x70 ∷ 0xd5 ∷ 0x72 ∷ 0x95 ∷ 0xe7 ∷ 0x48 ∷ 0x49 ∷ 0xa2 ∷ 0x79 ∷ 0x17 ∷ [])) ≡ example_reply.m4
unfolding bytes_of number_of two_blocks
m4_is = refl

m5_is : cmac reply_mac_key (concat example_reply.m4) ≡ example_reply.m5
unfolding bytes_of number_of product cancelled remainder mul xor_blocks add_round_key shift_rows circulant mix_columns xor_words rot_word power_of_x rcon words_up_to round_key tabled_byte tabled_word tabled_added tabled_next tabled_words tabled_bytes tabled_rounds tabled_cipher enc_by_table dbl before_last block_at front_blocks last_piece tabled_zero tabled_last tabled_chain cmac_by_table
m5_is = sym (cmac_by_table_is reply_mac_key (concat example_reply.m4))

m1_is : example_request.m1 ≡ bytes_of 16 (head_number (numbered_uid 1) 4 1)
unfolding bytes_of number_of
m1_is = refl

pub IsBlock-new_key : IsBlock new_key
unfolding bytes_of
IsBlock-new_key = IsBytes-bytes_of 16 0x0f0e0d0c0b0a09080706050403020100

-- the request of the example is built, and its reply confirms it
pub example_builds : Builds example_request master_key example_update
unfolding request_mac
example_builds = record {
  is_update = is_update _ 4 1 1 clear_flags new_key IsUid-left (omega arith) (omega arith) (omega arith) IsBlock-new_key;
  m1_is = m1_is;
  m2_is = sym (ap (λ k. cbc k zero_block (two_blocks (plain example_update 0))) request_key_is ∙ m2_is);
  m3_is = sym (ap (λ k. cmac k (example_request.m1 ++ concat example_request.m2)) request_mac_key_is ∙ m3_is);
}

pub example_confirms : Confirms example_reply example_update (numbered_uid 1)
example_confirms = record {
  m4_is = sym (
      ap (λ k. two_blocks (number_of (numbered_uid 1) * 2 ^ 136 + 4 * 2 ^ 132 + 1 * 2 ^ 128 + number_of (enc k (bytes_of 16 (1 * 2 ^ 100 + 2 ^ 99))))) reply_key_is
      ∙ ap (λ b. two_blocks (number_of (numbered_uid 1) * 2 ^ 136 + 4 * 2 ^ 132 + 1 * 2 ^ 128 + number_of b)) sealed_is
      ∙ m4_is);
  m5_is = sym (ap (λ k. cmac k (concat example_reply.m4)) reply_mac_key_is ∙ m5_is);
}

-- the same update under the bus key has another M3 than under the master key
macs_differ : other_m3 ≡ right_m3 → ⊥
macs_differ e = let h : 0xc4 ≡ 0xf9 = ap (λ xs. get_or xs 0 0) e in absurd (omega (arith, h))

other_m2_built : cbc (kdf bus_key Enc) zero_block (two_blocks (plain other_update 0)) ≡ other_m2
other_m2_built = ap (λ k. cbc k zero_block (two_blocks (plain other_update 0))) other_key_is ∙ other_m2_is

-- M1 and M2 of it
abbrev pub built_m1 : List ℕ
built_m1 = bytes_of 16 (head_number other_update.uid other_update.id other_update.auth)

abbrev pub built_m2 : List (List ℕ)
built_m2 = cbc (kdf bus_key Enc) zero_block (two_blocks (plain other_update 0))

pub other_mac : request_mac bus_key built_m1 built_m2 ≡ request_mac master_key built_m1 built_m2 → ⊥
unfolding request_mac
other_mac e =
    let left : request_mac bus_key built_m1 built_m2 ≡ other_m3 =
    ap (λ m. request_mac bus_key m built_m2) (sym m1_is) ∙ ap (λ m. request_mac bus_key example_request.m1 m) other_m2_built
    ∙ ap (λ k. cmac k (example_request.m1 ++ concat other_m2)) other_mac_key_is ∙ other_m3_is in
    let right : request_mac master_key built_m1 built_m2 ≡ right_m3 =
    ap (λ m. request_mac master_key m built_m2) (sym m1_is) ∙ ap (λ m. request_mac master_key example_request.m1 m) other_m2_built
    ∙ ap (λ k. cmac k (example_request.m1 ++ concat other_m2)) request_mac_key_is ∙ right_m3_is in
    macs_differ (sym left ∙ e ∙ right)
