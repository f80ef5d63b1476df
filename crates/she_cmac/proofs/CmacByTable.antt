-- The CMAC with the cipher's S-box read from a table, to compute examples by: it is the CMAC.
use Rattle.std.specs.Prelude.{◌≡◌, ℕ, ◌-◌, ◌==◌, if◌then◌else◌, List, [], ◌∷◌, ◌++◌, length, fold, replicate}
use Rattle.std.proofs.Common.{refl, ap, ◌∙◌}
use Rattle.basics.specs.Numbers.{number_of, bytes_of}
use Rattle.she_aes.specs.Cipher.{enc, zero_block, xor_blocks}
use Rattle.she_aes.proofs.CallerLemmas.{enc_by_table, enc_by_table_is}
use Rattle.she_cmac.specs.Cmac.{dbl, encrypted_zero, first_subkey, second_subkey, front_blocks, last_piece, last_block, chained, cmac}

unfoldable pub tabled_zero : List ℕ → ℕ
tabled_zero key = number_of (enc_by_table key zero_block)

tabled_zero_is : (key : List ℕ) → tabled_zero key ≡ encrypted_zero key
unfolding tabled_zero encrypted_zero
tabled_zero_is key = ap number_of (enc_by_table_is key zero_block)

-- the last block, complete or padded, with its subkey
unfoldable pub tabled_last : List ℕ → List ℕ → List ℕ
tabled_last key piece = if length piece == 16
    then xor_blocks piece (bytes_of 16 (dbl (tabled_zero key)))
    else xor_blocks (piece ++ 128 ∷ replicate (15 - length piece) 0) (bytes_of 16 (dbl (dbl (tabled_zero key))))

tabled_last_is : (key piece : List ℕ) → tabled_last key piece ≡ last_block key piece
unfolding tabled_last last_block first_subkey second_subkey
tabled_last_is key piece =
    ap
    (λ n. if length piece == 16
    then xor_blocks piece (bytes_of 16 (dbl n))
    else xor_blocks (piece ++ 128 ∷ replicate (15 - length piece) 0) (bytes_of 16 (dbl (dbl n)))) (tabled_zero_is key)

-- blocks chained from a value on
unfoldable pub tabled_chain : List ℕ → List ℕ → List (List ℕ) → List ℕ
tabled_chain key from blocks = fold (λ c x. enc_by_table key (xor_blocks c x)) from blocks

tabled_chain_is : (key from : List ℕ) (blocks : List (List ℕ))
    → tabled_chain key from blocks ≡ fold (λ c x. enc key (xor_blocks c x)) from blocks
unfolding tabled_chain
tabled_chain_is key from [] = refl
tabled_chain_is key from (x ∷ blocks) =
    ap (λ c. tabled_chain key c blocks) (enc_by_table_is key (xor_blocks from x))
    ∙ tabled_chain_is key (enc key (xor_blocks from x)) blocks

unfoldable pub cmac_by_table : List ℕ → List ℕ → List ℕ
cmac_by_table key message = tabled_chain key zero_block (front_blocks message ++ tabled_last key (last_piece message) ∷ [])

pub cmac_by_table_is : (key message : List ℕ) → cmac_by_table key message ≡ cmac key message
unfolding cmac_by_table cmac chained
cmac_by_table_is key message =
    ap (λ x. tabled_chain key zero_block (front_blocks message ++ x ∷ [])) (tabled_last_is key (last_piece message))
    ∙ tabled_chain_is key zero_block (front_blocks message ++ last_block key (last_piece message) ∷ [])
