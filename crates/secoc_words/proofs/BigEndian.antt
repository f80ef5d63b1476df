-- Arrays of bytes, as the numbers that they are.
use Rattle.std.proofs.Common.{◌≡◌, ℕ, List, length, sym}
use Rattle.std.specs.Int.{from_be_bytes, w16, w64}
use Rattle.basics.specs.Numbers.{number_of}
use Rattle.basics.proofs.CallerLemmas.{from_be_bytes-16, from_be_bytes-64}

pub number_of_two : (xs : List ℕ) → length xs ≡ 2 → number_of xs ≡ from_be_bytes w16 xs
number_of_two xs size = sym (from_be_bytes-16 xs size)

pub number_of_eight : (xs : List ℕ) → length xs ≡ 8 → number_of xs ≡ from_be_bytes w64 xs
number_of_eight xs size = sym (from_be_bytes-64 xs size)
