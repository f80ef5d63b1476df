-- What a power cut may leave of a disk's bytes, and what a write does to them.
use Rattle.std.specs.Prelude.{◌≡◌, ℕ, ◌+◌, ◌<◌, true, false, List, ◌++◌, length, take, drop, replicate, slice_index}
use Rattle.std.specs.Prelude.{slice_index_or, slice_range, Option, Some}
use Rattle.cut_disk.specs.State.{Told}

-- xs with ys instead of as many elements, from `at` on
unfoldable pub splice : {X : Type 0} → ℕ → List X → List X → List X
splice at ys xs = take at xs ++ ys ++ drop (at + length ys) xs

-- A power cut may leave x: it has the length, and agrees with the bytes as read wherever these aren't loose.
pub record Image (t : Told) (x : List ℕ) : Type 0 where
  pub sized : length x ≡ length t.bytes
  pub agrees : (i : ℕ) → i < length x → slice_index_or t.loose i false ≡ false → slice_index x i ≡ slice_index t.bytes i

-- every list that a power cut may leave of what the disk tells has P
abbrev pub EachImage : Option Told → (List ℕ → Type 0) → Type 0
EachImage told P = (t : Told) → told ≡ Some t → (x : List ℕ) → Image t x → P x

-- these bytes, and none of them loose
abbrev pub firm : List ℕ → Told
firm bytes = record { bytes = bytes; loose = replicate (length bytes) false }

-- these bytes from `at` on, each of them loose, and all else as before
abbrev pub with_bytes : ℕ → List ℕ → Told → Told
with_bytes at bytes t = record {
  bytes = splice at bytes t.bytes;
  loose = splice at (replicate (length bytes) true) t.loose;
}

-- y is x with something instead of so many bytes from `at` on
pub record Patched (at count : ℕ) (x y : List ℕ) : Type 0 where
  pub left : List ℕ
  pub sized : length left ≡ count
  pub is : y ≡ splice at left x

-- an image under a write: one that was allowed before it, with something in the range
pub record UnderWrite (at count : ℕ) (t : Told) (y : List ℕ) : Type 0 where
  pub before : List ℕ
  pub image : Image t before
  pub patched : Patched at count before y

-- What a call leaves is said by what the disk told before and what it tells after.

-- the bytes from `at` on are these
abbrev pub ReadsAs : Option Told → ℕ → List ℕ → Type 0
ReadsAs told at out = (t : Told) → told ≡ Some t → out ≡ slice_range t.bytes at (at + length out)

-- the bytes are written, and loose
abbrev pub WritesLoose : ℕ → List ℕ → Option Told → Option Told → Type 0
WritesLoose at bytes old new = (t : Told) → old ≡ Some t → new ≡ Some (with_bytes at bytes t)

-- so many bytes from `at` on are anything, and loose
pub record LeavesAny (at count : ℕ) (t : Told) (new : Option Told) : Type 0 where
  pub left : List ℕ
  pub sized : length left ≡ count
  pub now : new ≡ Some (with_bytes at left t)

abbrev pub Tears : ℕ → ℕ → Option Told → Option Told → Type 0
Tears at count old new = (t : Told) → old ≡ Some t → LeavesAny at count t new

-- every byte reads as before, and none is loose
abbrev pub Syncs : Option Told → Option Told → Type 0
Syncs old new = (t : Told) → old ≡ Some t → new ≡ Some (firm t.bytes)

-- the bytes are one list that a power cut was allowed to leave, and none is loose
pub record LeavesImage (t : Told) (new : Option Told) : Type 0 where
  pub left : List ℕ
  pub image : Image t left
  pub now : new ≡ Some (firm left)

abbrev pub CutsTo : Option Told → Option Told → Type 0
CutsTo old new = (t : Told) → old ≡ Some t → LeavesImage t new
