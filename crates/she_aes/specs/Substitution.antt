-- A substitution by look-ups in tables of 16 bytes, as it goes for one byte. The byte is taken for a pair of elements
-- of the field of 16, in which it is inverted by a few quotients. Two tables give the byte of what comes out.
use Rattle.std.specs.Prelude.{ℕ, ◌/◌, ◌^◌, List, bit_and, bit_xor}
use Rattle.she_aes.specs.Lookups.{entry}
use Rattle.she_aes.specs.declared.substitution.TheConstants.{INVERSES, QUOTIENTS}

-- the low four bits of a byte, and the high four
abbrev pub low_nibble : ℕ → ℕ
low_nibble b = bit_and b 15

abbrev pub high_nibble : ℕ → ℕ
high_nibble b = b / 2 ^ 4

-- what two tables take a byte for
abbrev pub pair : List ℕ → List ℕ → ℕ → ℕ
pair low high b = bit_xor (entry low (low_nibble b)) (entry high (high_nibble b))

-- of a pair: its two elements together
abbrev pub total : ℕ → ℕ
total p = bit_xor (high_nibble p) (low_nibble p)

-- its inverse, by quotients
abbrev pub quotient : ℕ → ℕ
quotient p = entry QUOTIENTS (low_nibble p)

abbrev pub from_upper : ℕ → ℕ
from_upper p = bit_xor (entry INVERSES (high_nibble p)) (quotient p)

abbrev pub from_total : ℕ → ℕ
from_total p = bit_xor (entry INVERSES (total p)) (quotient p)

abbrev pub first : ℕ → ℕ
first p = bit_xor (entry INVERSES (from_upper p)) (total p)

abbrev pub second : ℕ → ℕ
second p = bit_xor (entry INVERSES (from_total p)) (high_nibble p)

-- the byte that two tables give for the inverse
abbrev pub inverse_by : List ℕ → List ℕ → ℕ → ℕ
inverse_by left right p = bit_xor (entry left (first p)) (entry right (second p))
