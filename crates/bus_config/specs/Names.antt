-- The names of nodes (own)
use Rattle.std.specs.Prelude.{ℕ, Bool, ◌&&◌, ◌||◌, ◌==◌, nat_le, List, length, slice_index}
use Rattle.std.specs.List.{list_all}
use Rattle.std.specs.Char.{is_ascii_digit}

-- a lower-case letter, from a, which is 97, to z, which is 122
abbrev pub is_letter : ℕ → Bool
is_letter byte = nat_le 97 byte && nat_le byte 122

-- a lower-case letter, a digit, `-`, which is 45, or `_`, which is 95
abbrev pub is_name_byte : ℕ → Bool
is_name_byte byte = is_letter byte || is_ascii_digit byte || (byte == 45) || (byte == 95)

-- 1 to 16 such bytes, the first of them a letter
abbrev pub is_name : List ℕ → Bool
is_name word =
    nat_le 1 (length word) && nat_le (length word) 16 && is_letter (slice_index word 0) && list_all is_name_byte word
