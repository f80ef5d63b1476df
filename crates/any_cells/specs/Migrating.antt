-- What migrating a store to version 2 answers and leaves.
use Rattle.std.specs.Prelude.{◌≡◌, ℕ, ◌<◌, ◌≤◌, ◌⊎◌, Option, Some, List, [], length}
use Rattle.cut_disk.specs.State.{DiskState, Told}
use Rattle.cut_disk.specs.Images.{firm, EachImage}
use Rattle.cut_disk.specs.Calls.{Runs, Grows}
use Rattle.cell_store.specs.declared.kinds.Kind.{Kind}
use Rattle.cell_store.specs.declared.kinds.Version.TheVariants.{Two}
use Rattle.cell_store.specs.declared.faults.StoreFault.{StoreFault}
use Rattle.cell_store.specs.declared.faults.StoreFault.TheVariants as store
use Rattle.cell_store.specs.declared.faults.Reread.{Reread}
use Rattle.cell_store.specs.declared.faults.Reread.TheVariants as reread
use Rattle.cell_store.specs.Layout.{layout}
use Rattle.cell_store.specs.Store.{Stands, store_size}
use Rattle.cell_store.specs.Moving.{CountsAs, StandsAsCounted, Moved, Unmoved, KeepsCounted, LeavesBelow, move_calls}

-- a store of 1 to 441 cells, of either kind, ends before 32768 in version 1
pub record FewToMigrate (n : ℕ) : Type 0 where
  pub some : 1 ≤ n
  pub most : n ≤ 441

-- the bytes x count as version 2, and stand for these cells in it
pub record StandsInTwo (kind : Kind) (cells : List (List ℕ)) (x : List ℕ) : Type 0 where
  pub counting : CountsAs kind (length cells) x Two
  pub stands : Stands (layout kind Two) x cells

-- The bytes stood for a list of n cells in the version that counts. They are as they were, or have a fresh store of
-- version 2 of these cells over them. If none was loose, every image counts as version 2 and stands for the cells in
-- it.
pub record Migrated (kind : Kind) (n : ℕ) (t : Told) (new : Option Told) : Type 0 where
  pub cells : List (List ℕ)
  pub count : length cells ≡ n
  pub moved : Moved kind cells t new
  pub images : t ≡ firm t.bytes → EachImage new (StandsInTwo kind cells)

abbrev pub Migrates : Kind → ℕ → Option Told → Option Told → Type 0
Migrates kind n old new = (t : Told) → old ≡ Some t → Migrated kind n t new

-- there was room on the disk, and the store couldn't be moved
pub record NotMoved (kind : Kind) (n : ℕ) (before after : DiskState) (fault : Reread) : Type 0 where
  pub room : store_size (layout kind Two) n ≤ before.size
  pub runs : Runs [] (move_calls kind n) before after
  pub unmoved : Unmoved kind n before after fault

-- why a store of n cells isn't migrated, and what that leaves of the disk
abbrev pub NotMigrated : Kind → ℕ → DiskState → DiskState → StoreFault → Type 0
NotMigrated kind n before after store.TooSmall = (before.size < store_size (layout kind Two) n) × (after ≡ before)
NotMigrated kind n before after store.Memory = (store_size (layout kind Two) n ≤ before.size) × (after ≡ before)
NotMigrated kind n before after store.DiskFailed = NotMoved kind n before after reread.DiskFailed
NotMigrated kind n before after store.NotFormatted = NotMoved kind n before after reread.NotFormatted
NotMigrated kind n before after (store.Damaged i) = NotMoved kind n before after (reread.Damaged i)

-- if the bytes stood for a list of n cells in the version that counts, and none was loose, no other cause is left
abbrev pub OnlyRoomOrDisk : Kind → ℕ → Option Told → StoreFault → Type 0
OnlyRoomOrDisk kind n old fault =
    (b : List ℕ) (cells : List (List ℕ)) → old ≡ Some (firm b) → length cells ≡ n → StandsAsCounted kind cells b
    → (fault ≡ store.TooSmall) ⊎ ((fault ≡ store.Memory) ⊎ (fault ≡ store.DiskFailed))

-- what a migration of a store of n cells leaves that answers Ok
pub record MigratesDisk (kind : Kind) (n : ℕ) (before after : DiskState) : Type 0 where
  pub room : store_size (layout kind Two) n ≤ before.size
  pub runs : Runs [] (move_calls kind n) before after
  pub grows : Grows before after
  -- no call of the disk failed
  pub faults : after.faults ≡ before.faults
  pub migrated : Migrates kind n before.told after.told
  -- each image stands for the cells in the version that counts in it, and has no other bytes changed
  pub images : KeepsCounted kind n before.told after.told
  pub besides : LeavesBelow kind n before.told after.told

-- what one leaves that is refused for this fault
pub record LeavesUnmigrated (kind : Kind) (n : ℕ) (before after : DiskState) (fault : StoreFault) : Type 0 where
  pub cause : NotMigrated kind n before after fault
  pub only : OnlyRoomOrDisk kind n before.told fault
  pub images : KeepsCounted kind n before.told after.told
  pub besides : LeavesBelow kind n before.told after.told
