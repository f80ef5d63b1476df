-- What a write, a sync and a power cut leave together.
use Rattle.std.specs.Prelude.{◌≡◌, ℕ, List, Option, Some}
use Rattle.cut_disk.specs.State.{Told}
use Rattle.cut_disk.specs.Images.{Image, splice, firm, Patched}

-- these bytes stand from `at` on, all else is as it was read, and no byte is loose
abbrev pub Lasts : ℕ → List ℕ → Option Told → Option Told → Type 0
Lasts at bytes old new = (t : Told) → old ≡ Some t → new ≡ Some (firm (splice at bytes t.bytes))

-- no byte is loose, and outside the range the bytes are those that a power cut might have left before
pub record LeavesPatched (at count : ℕ) (t : Told) (new : Option Told) : Type 0 where
  pub before : List ℕ
  pub image : Image t before
  pub bytes : List ℕ
  pub patched : Patched at count before bytes
  pub now : new ≡ Some (firm bytes)

abbrev pub LastsTorn : ℕ → ℕ → Option Told → Option Told → Type 0
LastsTorn at count old new = (t : Told) → old ≡ Some t → LeavesPatched at count t new
