-- Numbers as lists of bytes, the most significant byte first.
use Rattle.std.specs.Prelude.{ℕ, zero, suc, ◌+◌, ◌*◌, ◌/◌, ◌%◌, ◌^◌, List, [], ◌∷◌, length}

-- the big-endian number of a list of bytes
unfoldable pub number_of : List ℕ → ℕ
number_of [] = 0
number_of (b ∷ bs) = b * 256 ^ length bs + number_of bs

-- the list of n bytes whose big-endian number is a; if a has more bytes, its lowest n
unfoldable pub bytes_of : ℕ → ℕ → List ℕ
bytes_of zero a = []
bytes_of (suc n) a = a / 256 ^ n % 256 ∷ bytes_of n a
