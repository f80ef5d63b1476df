-- The field of 256 elements, and the S-box (FIPS 197, sections 4 and 5.1.1). A byte is a polynomial over
-- two elements: bit i is the coefficient of x^i. So a sum is an exclusive or.
use Rattle.std.specs.Prelude.{ℕ, ◌+◌, ◌*◌, ◌%◌, ◌^◌, ◌==◌, map, reverse, find, fold, unwrap_or, bit_xor}
use Rattle.std.specs.Int.{bit_at}
use Rattle.std.specs.List.{range_with_len}

-- the sum of the f i for i below n
abbrev pub sum_below : ℕ → (ℕ → ℕ) → ℕ
sum_below n f = fold bit_xor 0 (map f (range_with_len 0 n))

-- the product of two bytes as polynomials: each term x^i of a times b
unfoldable pub product : ℕ → ℕ → ℕ
product a b = sum_below 8 (λ i. bit_at a i * (b * 2 ^ i))

-- x^8 + x^4 + x^3 + x + 1
abbrev pub modulus : ℕ
modulus = 0x11b

-- p, with its term x^(k + 8), if it has one, cancelled by that multiple of the modulus
unfoldable pub cancelled : ℕ → ℕ → ℕ
cancelled p k = bit_xor p (bit_at p (k + 8) * (modulus * 2 ^ k))

-- the remainder of a polynomial of degree below 15, by long division
unfoldable pub remainder : ℕ → ℕ
remainder p = fold cancelled p (reverse (range_with_len 0 7))

-- the product of two bytes in the field
unfoldable pub mul : ℕ → ℕ → ℕ
mul a b = remainder (product a b)

-- the byte whose product with a is 1, or 0 if there is none
unfoldable pub inv : ℕ → ℕ
inv a = unwrap_or (find (λ b. mul a b == 1) (range_with_len 0 256)) 0

-- the byte with these bits
abbrev pub byte_of_bits : (ℕ → ℕ) → ℕ
byte_of_bits bit = sum_below 8 (λ i. bit i * 2 ^ i)

-- bit i of the affine map of the S-box
abbrev pub affine_bit : ℕ → ℕ → ℕ
affine_bit b i =
    (bit_at b i + bit_at b ((i + 4) % 8) + bit_at b ((i + 5) % 8) + bit_at b ((i + 6) % 8) + bit_at b ((i + 7) % 8)
    + bit_at 0x63 i) % 2

-- the affine map of the S-box
unfoldable pub affine : ℕ → ℕ
affine b = byte_of_bits (affine_bit b)

-- the S-box
unfoldable pub sub_byte : ℕ → ℕ
sub_byte a = affine (inv a)

-- bit i of the inverse of the affine map
abbrev pub inv_affine_bit : ℕ → ℕ → ℕ
inv_affine_bit b i = (bit_at b ((i + 2) % 8) + bit_at b ((i + 5) % 8) + bit_at b ((i + 7) % 8) + bit_at 0x05 i) % 2

-- the inverse of the affine map
unfoldable pub inv_affine : ℕ → ℕ
inv_affine b = byte_of_bits (inv_affine_bit b)

-- the inverse S-box: the inverse of the affine map, and then that of the field (section 5.3.2)
unfoldable pub inv_sub_byte : ℕ → ℕ
inv_sub_byte b = inv (inv_affine b)
