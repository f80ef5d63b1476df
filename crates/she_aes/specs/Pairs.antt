-- A byte as a pair of elements of the field of 16, and the state and the round keys in pairs.
use Rattle.std.specs.Prelude.{ℕ, List, map, bit_xor}
use Rattle.she_aes.specs.Substitution.{pair}
use Rattle.she_aes.specs.declared.substitution.TheConstants.{LOW, HIGH}

-- the pair that the S-box takes a byte for
unfoldable pub pair_of : ℕ → ℕ
pair_of b = pair LOW HIGH b

-- each byte as its pair
unfoldable pub in_pairs : List ℕ → List ℕ
in_pairs bytes = map pair_of bytes

-- each byte less the constant of the S-box, which is the byte and the constant together
unfoldable pub without_constant : List ℕ → List ℕ
without_constant bytes = map (λ b. bit_xor b 0x63) bytes
