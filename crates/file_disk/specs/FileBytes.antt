-- What a file tells of its bytes, what a call of it leaves of them, and which bytes of a disk over it are loose.
use Rattle.std.specs.Prelude.{◌≡◌, ℕ, ◌+◌, ◌≤◌, Bool, true, false, List, [], ◌∷◌, length, replicate, slice_range}
use Rattle.std.specs.Prelude.{Option, Some, None}
use Rattle.cut_disk.specs.State.{Told}
use Rattle.cut_disk.specs.Images.{splice, Patched}

-- told bytes are so many, if there are any
abbrev pub TellsSize : ℕ → Option (List ℕ) → Type 0
TellsSize size told = (bytes : List ℕ) → told ≡ Some bytes → length bytes ≡ size

-- so many bytes from `at` on are among the told ones, if there are any
abbrev pub IsInside : ℕ → ℕ → Option (List ℕ) → Type 0
IsInside at count told = (bytes : List ℕ) → told ≡ Some bytes → at + count ≤ length bytes

-- the bytes from `at` on are these
abbrev pub GivesBytes : ℕ → List ℕ → Option (List ℕ) → Type 0
GivesBytes at out told = (bytes : List ℕ) → told ≡ Some bytes → out ≡ slice_range bytes at (at + length out)

-- these are put instead of as many bytes from `at` on
abbrev pub PutsBytes : ℕ → List ℕ → Option (List ℕ) → Option (List ℕ) → Type 0
PutsBytes at put old new = (bytes : List ℕ) → old ≡ Some bytes → new ≡ Some (splice at put bytes)

-- something is put instead of so many bytes from `at` on
pub record LeavesPatch (at count : ℕ) (old : List ℕ) (new : Option (List ℕ)) : Type 0 where
  pub bytes : List ℕ
  pub patched : Patched at count old bytes
  pub now : new ≡ Some bytes

abbrev pub PutsAny : ℕ → ℕ → Option (List ℕ) → Option (List ℕ) → Type 0
PutsAny at count old new = (bytes : List ℕ) → old ≡ Some bytes → LeavesPatch at count bytes new

-- Of so many bytes those are loose that were written since the last sync. Each write stands there by its address and
-- its number of bytes, the last one first.
abbrev pub loose_since : ℕ → List ℕ → List Bool
loose_since size [] = replicate size false
loose_since size (at ∷ []) = replicate size false
loose_since size (at ∷ count ∷ earlier) = splice at (replicate count true) (loose_since size earlier)

-- the bytes of a file with these marks, if the file tells any
abbrev pub with_marks : Option (List ℕ) → List Bool → Option Told
with_marks None loose = None
with_marks (Some bytes) loose = Some (record { bytes = bytes; loose = loose })
