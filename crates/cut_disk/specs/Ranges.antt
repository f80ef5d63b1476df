-- What holds outside of the range of a disk in memory that was written since the last sync.
use Rattle.std.specs.Prelude.{◌≡◌, ℕ, ◌<◌, ◌≤◌, Bool, false, List, slice_index, slice_index_or}

-- two lists have the same elements before this range and after it
pub record IsSameOutside (from to : ℕ) (xs ys : List ℕ) : Type 0 where
  pub before : (i : ℕ) → i < from → slice_index ys i ≡ slice_index xs i
  pub behind : (i : ℕ) → to ≤ i → slice_index ys i ≡ slice_index xs i

-- nothing is loose before this range and after it
pub record IsFirmOutside (from to : ℕ) (loose : List Bool) : Type 0 where
  pub before : (i : ℕ) → i < from → slice_index_or loose i false ≡ false
  pub behind : (i : ℕ) → to ≤ i → slice_index_or loose i false ≡ false
