-- AES key wrap (RFC 3394, 2.2.1) of a key of 128 bits: its two halves are of 64 bits
use Rattle.std.specs.Prelude.{ℕ, zero, suc, ◌+◌, ◌*◌, ◌/◌, ◌%◌, ◌^◌, List, ◌++◌, bit_xor}
use Rattle.basics.specs.Numbers.{number_of, bytes_of}
use Rattle.she_aes.specs.Cipher.{enc}
use Rattle.unit_keys.specs.declared.wrapping.Register.{Register}

-- Step t: the check value and the first half are encrypted as one block. The high half of what comes out, exclusive-ored
-- with t, is the new check value. Its low half comes after the second half.
unfoldable pub wrap_step : List ℕ → ℕ → Register → Register
wrap_step key t r =
    let block : ℕ = number_of (enc key (bytes_of 16 (r.check * 2 ^ 64 + r.first))) in
    record { check = bit_xor (block / 2 ^ 64) t; first = r.second; second = block % 2 ^ 64 }

-- after the steps 1 to n
unfoldable pub wrap_steps : List ℕ → ℕ → Register → Register
wrap_steps key zero r = r
wrap_steps key (suc t) r = wrap_step key (suc t) (wrap_steps key t r)

-- at first: the initial value (RFC 3394, 2.2.3.1), and the two halves of the key
abbrev pub first_register : List ℕ → Register
first_register plain =
    record { check = 0xa6a6a6a6a6a6a6a6; first = number_of plain / 2 ^ 64; second = number_of plain % 2 ^ 64 }

abbrev pub register_bytes : Register → List ℕ
register_bytes r = bytes_of 8 r.check ++ bytes_of 8 r.first ++ bytes_of 8 r.second

-- the 24 bytes that a key of 16 bytes is wrapped to, by six steps for each half
unfoldable pub wrapped : List ℕ → List ℕ → List ℕ
wrapped key plain = register_bytes (wrap_steps key 12 (first_register plain))
