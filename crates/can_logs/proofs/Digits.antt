-- Digits that are decoded into room for half as many bytes
use Rattle.std.proofs.Common.{◌≡◌, ℕ, List, length, arith}
use Rattle.std.specs.Prelude.{◌/◌}
use Rattle.std.proofs.lemmas.Bool.Decides.{nat_tests}
use Rattle.hex.specs.Hex.{decode_of, decode_sized}

-- they are what they are without room
pub decode_half : (word : List ℕ) → decode_sized word (length word / 2) ≡ decode_of word
decode_half word = grind (arith, nat_tests)
