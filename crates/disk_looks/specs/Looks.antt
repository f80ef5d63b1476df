-- What a look at a whole disk sees, before a start that wants a store of this kind, version and number of cells there
use Rattle.std.specs.Prelude.{◌≡◌, ◌⊎◌, ℕ, Some, None, List, [], length, replicate}
use Rattle.cut_disk.specs.State.{DiskState}
use Rattle.cut_disk.specs.Calls.{Rose, Runs}
use Rattle.cell_store.specs.declared.kinds.Kind.{Kind}
use Rattle.cell_store.specs.declared.kinds.Version.{Version}
use Rattle.cell_store.specs.declared.kinds.Version.TheVariants.{One, Two}
use Rattle.store_growing.specs.declared.headers.StoreHeader.{StoreHeader}
use Rattle.store_growing.specs.StoreHeaders.{HeaderStands, store_header}
use Rattle.disk_looks.specs.declared.looks.Seen.{Seen}
use Rattle.disk_looks.specs.declared.looks.Seen.TheVariants.{Unused, Standing, Older, Other, Neither}
use Rattle.disk_looks.specs.declared.looks.LookFault.{LookFault}
use Rattle.disk_looks.specs.declared.looks.LookFault.TheVariants.{DiskFailed, Memory}

-- all bytes are zeros
abbrev pub AllZeros : List ℕ → Type 0
AllZeros x = x ≡ replicate (length x) 0

-- the store that is wanted; or, if version 2 is, the same store in version 1, which a start moves
abbrev pub IsWanted : Kind → Version → ℕ → StoreHeader → Type 0
IsWanted kind version n there =
    (there ≡ store_header kind version n) ⊎ ((version ≡ Two) × (there ≡ store_header kind One n))

-- what the bytes x are seen as: the header that stands decides, and if none stands, all bytes
pub data LooksAs (kind : Kind) (version : Version) (n : ℕ) (x : List ℕ) : Seen → Type 0 where
  seen_unused : AllZeros x → LooksAs kind version n x Unused
  seen_standing : HeaderStands x (Some (store_header kind version n)) → LooksAs kind version n x Standing
  seen_older : version ≡ Two → HeaderStands x (Some (store_header kind One n)) → LooksAs kind version n x Older
  seen_other : (there : StoreHeader) → HeaderStands x (Some there) → ¬ IsWanted kind version n there
      → LooksAs kind version n x (Other there)
  seen_neither : HeaderStands x None → ¬ AllZeros x → LooksAs kind version n x Neither

-- a start that keeps what stands may go on over these bytes: nothing was ever written there, or the store that is
-- wanted stands
abbrev pub CanKeep : Kind → Version → ℕ → List ℕ → Type 0
CanKeep kind version n x =
    AllZeros x ⊎ ((there : StoreHeader) × HeaderStands x (Some there) × IsWanted kind version n there)

-- a call of the disk failed; or none did, and there was no memory
abbrev pub LookCause : DiskState → DiskState → LookFault → Type 0
LookCause before after DiskFailed = Rose before.faults after.faults
LookCause before after Memory = after.faults ≡ before.faults

-- the disk was read at most, in so many calls, and the look came to no end
pub record FailsLook (calls : ℕ) (before after : DiskState) (fault : LookFault) : Type 0 where
  pub runs : Runs [] calls before after
  pub told : after.told ≡ before.told
  pub cause : LookCause before after fault
