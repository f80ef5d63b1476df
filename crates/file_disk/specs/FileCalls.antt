-- The calls of a file.
use Rattle.std.specs.Prelude.{◌≡◌, ℕ, Bool, List, [], ◌∷◌, ◌++◌, Option, Some}

-- a read at an offset with the bytes that it left in its buffer, a write of bytes at an offset, and a sync; each with
-- whether it was Ok
pub data FileCall : Type 0 where
  ReadAt : ℕ → List ℕ → Bool → FileCall
  WriteAt : ℕ → List ℕ → Bool → FileCall
  SyncAll : Bool → FileCall

-- a file that tells its calls tells this one more
abbrev pub Notes : FileCall → Option (List FileCall) → Option (List FileCall) → Type 0
Notes call old new = (calls : List FileCall) → old ≡ Some calls → new ≡ Some (calls ++ call ∷ [])
