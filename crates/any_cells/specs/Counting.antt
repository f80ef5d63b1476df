-- Which of the stores on a disk counts
use Rattle.std.specs.Prelude.{ℕ, List, Option, None, Some}
use Rattle.cell_store.specs.declared.kinds.Kind.{Kind}
use Rattle.cell_store.specs.declared.kinds.Version.{Version}
use Rattle.cell_store.specs.declared.kinds.Version.TheVariants.{One, Two}
use Rattle.cell_store.specs.Layout.{layout}
use Rattle.cell_store.specs.Store.{FewCells, HasHeader}
use Rattle.any_cells.specs.declared.finding.CountingStore.{CountingStore}

-- the bytes x have the header of a store of this version: it has this kind and n cells
abbrev pub HasStore : Version → List ℕ → Kind → ℕ → Type 0
HasStore version x kind n = FewCells n × HasHeader (layout kind version) n x

-- they don't have the header of a store of this version
abbrev pub HasNoStore : Version → List ℕ → Type 0
HasNoStore version x = (kind : Kind) (n : ℕ) → ¬ HasStore version x kind n

abbrev pub counting_store : Kind → Version → ℕ → CountingStore
counting_store kind version n = record { kind = kind; version = version; cells = n }

-- which store counts in the bytes x: that of version 2 counts if its kind and number are those of the store of version
-- 1, or if version 1 has none
pub data StoreThatCounts (x : List ℕ) : Option CountingStore → Type 0 where
  moved_up : (kind : Kind) (n : ℕ) → HasStore One x kind n → HasStore Two x kind n
      → StoreThatCounts x (Some (counting_store kind Two n))
  not_moved : (kind : Kind) (n : ℕ) → HasStore One x kind n → ¬ HasStore Two x kind n
      → StoreThatCounts x (Some (counting_store kind One n))
  only_second : (kind : Kind) (n : ℕ) → HasNoStore One x → HasStore Two x kind n
      → StoreThatCounts x (Some (counting_store kind Two n))
  no_store : HasNoStore One x → HasNoStore Two x → StoreThatCounts x None
