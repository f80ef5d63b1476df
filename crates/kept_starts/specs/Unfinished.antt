-- What a cut within the very first format of a store leaves of a disk of zeros
use Rattle.std.specs.Prelude.{◌≡◌, ◌⊎◌, ℕ, ◌+◌, ◌<◌, ◌≤◌, None, List, get_or}
use Rattle.cell_store.specs.declared.kinds.Kind.{Kind}
use Rattle.cell_store.specs.declared.kinds.Version.{Version}
use Rattle.cell_store.specs.Layout.{base}
use Rattle.cell_store.specs.Store.{fresh_cells}
use Rattle.store_growing.specs.StoreHeaders.{HeaderStands}

-- A format writes the cells of a new store, and its header last. So a cut before the header leaves this of zeros: no
-- header stands, all bytes are zeros up to the end of its place, and each byte after it is zero or that of a new store of
-- these cells. So a store is never taken for this whose header stands, nor one with a byte that no new store has.
pub record IsUnfinishedFormat (kind : Kind) (version : Version) (cells : List (List ℕ)) (x : List ℕ) : Type 0 where
  pub headless : HeaderStands x None
  pub zeros : (k : ℕ) → k < base version + 32 → get_or x k 0 ≡ 0
  pub begun : (k : ℕ) → (get_or x (base version + 32 + k) 0 ≡ 0)
      ⊎ (get_or x (base version + 32 + k) 0 ≡ get_or (fresh_cells kind cells) k 0)

-- the byte of x at k is zero, or stands from this place on and is that of y; and so is each
abbrev pub BegunAt : ℕ → List ℕ → List ℕ → ℕ → Type 0
BegunAt from y x k = (get_or x k 0 ≡ 0) ⊎ ((from ≤ k) × (get_or x k 0 ≡ get_or y k 0))

abbrev pub IsBegunFrom : ℕ → List ℕ → List ℕ → Type 0
IsBegunFrom from y x = (k : ℕ) → BegunAt from y x k
