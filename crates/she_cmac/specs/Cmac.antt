-- The CMAC of a message under a key (NIST SP 800-38B), over AES-128. Keys and blocks are lists of 16 bytes, messages
-- lists of bytes.
use Rattle.std.specs.Prelude.{ℕ, ◌-◌, ◌*◌, ◌/◌, ◌^◌, ◌==◌, nat_lt, if◌then◌else◌, List, [], ◌∷◌, ◌++◌, length, take}
use Rattle.std.specs.Prelude.{drop, map, fold, replicate, bit_xor}
use Rattle.std.specs.List.{range_with_len}
use Rattle.basics.specs.Numbers.{number_of, bytes_of}
use Rattle.she_aes.specs.Cipher.{enc, zero_block, xor_blocks}

-- section 6.1, steps 2 and 3: a number below 2^128 shifted left by one bit, with 135 added bit by bit if a 1 was
-- shifted out
unfoldable pub dbl : ℕ → ℕ
dbl a = if nat_lt a (2 ^ 127) then 2 * a else bit_xor (2 * a - 2 ^ 128) 135

-- section 6.1, step 1: the encrypted zero block, as a number
unfoldable pub encrypted_zero : List ℕ → ℕ
encrypted_zero key = number_of (enc key zero_block)

-- section 6.1: the subkeys K1 and K2
unfoldable pub first_subkey : List ℕ → List ℕ
first_subkey key = bytes_of 16 (dbl (encrypted_zero key))

unfoldable pub second_subkey : List ℕ → List ℕ
second_subkey key = bytes_of 16 (dbl (dbl (encrypted_zero key)))

-- section 6.2, steps 2 and 3: how many blocks stand before the last one, which has 1 to 16 bytes, or none if the
-- message is empty
unfoldable pub before_last : List ℕ → ℕ
before_last message = (length message - 1) / 16

-- block i of the message that is cut into blocks of 16 bytes
unfoldable pub block_at : List ℕ → ℕ → List ℕ
block_at message i = take 16 (drop (16 * i) message)

unfoldable pub front_blocks : List ℕ → List (List ℕ)
front_blocks message = map (block_at message) (range_with_len 0 (before_last message))

unfoldable pub last_piece : List ℕ → List ℕ
last_piece message = block_at message (before_last message)

-- section 6.2, step 4: the last block, complete or padded
unfoldable pub last_block : List ℕ → List ℕ → List ℕ
last_block key piece = if length piece == 16
    then xor_blocks piece (first_subkey key)
    else xor_blocks (piece ++ 128 ∷ replicate (15 - length piece) 0) (second_subkey key)

-- section 6.2, steps 5 and 6: the last chained value of these blocks, from the zero block on
unfoldable pub chained : List ℕ → List (List ℕ) → List ℕ
chained key xs = fold (λ c x. enc key (xor_blocks c x)) zero_block xs

-- section 6.2, step 7, of all 128 bits
unfoldable pub cmac : List ℕ → List ℕ → List ℕ
cmac key message = chained key (front_blocks message ++ last_block key (last_piece message) ∷ [])
