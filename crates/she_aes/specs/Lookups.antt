-- Look-ups in tables of 16 bytes.
use Rattle.std.specs.Prelude.{ℕ, List, Bool, ◌||◌, slice_index, nat_lt, nat_le, if◌then◌else◌}

-- a place that can be looked up: one of the 16, or one from 128 on
abbrev pub is_place : ℕ → Bool
is_place place = nat_le 128 place || nat_lt place 16

-- the byte at a place of the table: from 128 on it is 0
abbrev pub entry : List ℕ → ℕ → ℕ
entry table place = if nat_le 128 place then 0 else slice_index table place
