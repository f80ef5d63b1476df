-- CRC-64 (ECMA-182's polynomial; the register begins and ends inverted): the remainder of a message.
use Rattle.std.specs.Prelude.{◌≡◌, ℕ, ◌-◌, ◌*◌, ◌^◌, nat_lt, if◌then◌else◌, List, [], ◌∷◌, fold, bit_xor}
use Rattle.std.specs.Fn.{iterate}

-- x^64 modulo the polynomial. Bit i of a number below 2^64 is the coefficient of x^i.
abbrev pub crc_polynomial : ℕ
crc_polynomial = 0x42f0e1eba9ea3693

-- a polynomial times x, modulo the polynomial
unfoldable pub times_x : ℕ → ℕ
times_x a = if nat_lt a (2 ^ 63) then 2 * a else bit_xor (2 * a - 2 ^ 64) crc_polynomial

-- one byte more: the remainder, with the byte added at its top, times x^8
unfoldable pub crc_step : ℕ → ℕ → ℕ
crc_step remainder byte = iterate times_x 8 (bit_xor remainder (byte * 2 ^ 56))

unfoldable pub crc_from : ℕ → List ℕ → ℕ
crc_from remainder bytes = fold crc_step remainder bytes

unfoldable pub crc64 : List ℕ → ℕ
crc64 bytes = bit_xor (crc_from (2 ^ 64 - 1) bytes) (2 ^ 64 - 1)

-- the published check value of this CRC: the nine digits from 1 on
abbrev pub CrcOfNineDigits : Type 0
CrcOfNineDigits =
    crc64 (0x31 ∷ 0x32 ∷ 0x33 ∷ 0x34 ∷ 0x35 ∷ 0x36 ∷ 0x37 ∷ 0x38 ∷ 0x39 ∷ []) ≡ 0x62ec59e3f1a4f00a
