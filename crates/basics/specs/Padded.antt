-- How a PDU stands in an array of 64 bytes.
use Rattle.std.specs.Prelude.{◌≡◌, ◌-◌, ◌++◌, List, ℕ, length, take, replicate}

-- the first `len` bytes, and zeros after them
pub record IsPadded (bytes : List ℕ) (len : ℕ) : Type 0 where
  pub size : length (take len bytes) ≡ len
  pub zeros : take len bytes ++ replicate (64 - len) 0 ≡ bytes
