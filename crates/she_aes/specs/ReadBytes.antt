-- Reading bytes of a list.
use Rattle.std.specs.Prelude.{◌<◌, ℕ, List, slice_index}

-- what is read at any place is a byte: an element, or the 0 past the end
abbrev pub ReadsBytes : List ℕ → Type 0
ReadsBytes s = (i : ℕ) → slice_index s i < 256
