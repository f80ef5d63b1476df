-- The arguments `NAME FILE BUS`
use Rattle.std.specs.Prelude.{ℕ, ◌==◌, ◌&&◌, if◌then◌else◌, Bool, bytes_eq, List, [], length, slice_index_or}
use Rattle.std.specs.Prelude.{Option, Some, None}

-- there are three, and the first is this name
abbrev pub asks_over_bus : List ℕ → List (List ℕ) → Bool
asks_over_bus name words = (length words == 3) && bytes_eq (slice_index_or words 0 []) name

-- the file of such arguments at this place, from 0
abbrev pub file_over_bus : List ℕ → List (List ℕ) → ℕ → Option (List ℕ)
file_over_bus name words place = if asks_over_bus name words then Some (slice_index_or words place []) else None
