-- What writes that are synced leave on a disk that tells its bytes.
use Rattle.std.specs.Prelude.{◌≡◌, ℕ, suc, ◌⊎◌, Bool, false, Option, Some, List}
use Rattle.cut_disk.specs.State.{Told}
use Rattle.cut_disk.specs.Images.{splice, firm, Image, EachImage}
use Rattle.cell_store.specs.Layout.{part, SameOutside}
use Rattle.cell_store.specs.Twin.{is_live}

-- if no byte was loose, every image is as the bytes were, except for n bytes from `at` on
abbrev pub LeavesOutside : ℕ → ℕ → Option Told → Option Told → Type 0
LeavesOutside at n old new = (b : List ℕ) → old ≡ Some (firm b) → EachImage new (SameOutside at n b)

-- A put behind a gate at `at` writes the gate and n bytes after it. Unfinished it changes nothing else of x, and what
-- stands there is closed, or as it was, or the new bytes.
pub record Unfinished (n at : ℕ) (new x y : List ℕ) : Type 0 where
  pub same : SameOutside at (suc n) x y
  pub spare : (is_live (part at (suc n) y) ≡ false)
      ⊎ ((part at (suc n) y ≡ part at (suc n) x) ⊎ (part at (suc n) y ≡ new))

-- the gate at `at` is closed now, nothing else is changed, and nothing is loose that wasn't
pub record GateClosed (n at : ℕ) (t : Told) (new : Option Told) : Type 0 where
  pub now : Told
  pub told : new ≡ Some now
  pub same : SameOutside at 1 t.bytes now.bytes
  pub closed : is_live (part at (suc n) now.bytes) ≡ false
  pub still_firm : t ≡ firm t.bytes → now ≡ firm now.bytes

abbrev pub ClosesGate : ℕ → ℕ → Option Told → Option Told → Type 0
ClosesGate n at old new = (t : Told) → old ≡ Some t → GateClosed n at t new

-- if no byte was loose, every image is what an unfinished put of these bytes may leave
abbrev pub LeavesUnfinished : ℕ → ℕ → List ℕ → Option Told → Option Told → Type 0
LeavesUnfinished n at copy old new = (b : List ℕ) → old ≡ Some (firm b) → EachImage new (Unfinished n at copy b)

-- an image that was allowed before, except for n bytes from `at` on
pub record OldOutside (at n : ℕ) (old : Told) (y : List ℕ) : Type 0 where
  pub before : List ℕ
  pub image : Image old before
  pub same : SameOutside at n before y

-- writes within n bytes from `at` on: every image is one that was allowed before, except for these
abbrev pub Loosens : ℕ → ℕ → Option Told → Option Told → Type 0
Loosens at n old new = (t : Told) → old ≡ Some t → EachImage new (OldOutside at n t)

-- the bytes read as these, loose or not
pub record ReadsNow (bytes : List ℕ) (new : Option Told) : Type 0 where
  pub loose : List Bool
  pub told : new ≡ Some (record { bytes = bytes; loose = loose })

-- these bytes read from `at` on, loose or not, and all else reads as before
abbrev pub Wrote : ℕ → List ℕ → Option Told → Option Told → Type 0
Wrote at bytes old new = (t : Told) → old ≡ Some t → ReadsNow (splice at bytes t.bytes) new
