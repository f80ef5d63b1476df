-- A disk over a file whose bytes are in memory, as it is opened.
use Rattle.std.proofs.Common.{◌≡◌, ℕ, ◌≤◌, Bool, false, List, length, replicate, Some, None, refl, sym, subst}
use Rattle.file_disk.specs.FileDisk.{FileContents, fresh_file_disk, IsJustOpened}

pub just_opened : (c : FileContents) (size : ℕ) (is_open : Bool) (bytes : List ℕ) → c ≡ fresh_file_disk size is_open None (Some bytes)
    → length bytes ≡ size → size ≤ 131072 → (is_open ≡ false → bytes ≡ replicate 65536 0) → IsJustOpened c
just_opened c size is_open bytes is sized most none =
    subst IsJustOpened (sym is) (record { bytes = bytes; sized = sized; most = most; fresh = refl; none = none })
