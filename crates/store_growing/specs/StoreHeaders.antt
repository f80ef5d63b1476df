-- Which store's header stands in bytes: of which kind and version, and with which number of cells
use Rattle.std.specs.Prelude.{ℕ, ◌+◌, ◌*◌, List, get_or, Option, Some, None}
use Rattle.cell_store.specs.declared.kinds.Kind.{Kind}
use Rattle.cell_store.specs.declared.kinds.Version.{Version}
use Rattle.cell_store.specs.declared.kinds.Version.TheVariants.{One, Two}
use Rattle.cell_store.specs.Layout.{layout}
use Rattle.cell_store.specs.Store.{FewCells, HasHeader}
use Rattle.store_plan.specs.Growing.{with_number}
use Rattle.store_growing.specs.declared.headers.StoreHeader.{StoreHeader}

-- The number of cells that stands in the header at the first byte: the cells below it are counted. The power that goes
-- while it is written leaves any number.
abbrev pub cells_counted : List ℕ → ℕ
cells_counted x = 256 * get_or x 10 0 + get_or x 11 0

-- x begins as a store of this kind and of version 1, whatever number of cells stands there
abbrev pub HasFirstHead : Kind → List ℕ → Type 0
HasFirstHead kind x = (n : ℕ) → HasHeader (layout kind One) n (with_number n x)

-- a store of version 2 has its header in x
abbrev pub HasVersionTwo : List ℕ → Type 0
HasVersionTwo x = (kind : Kind) × (n : ℕ) × FewCells n × HasHeader (layout kind Two) n x

abbrev pub store_header : Kind → Version → ℕ → StoreHeader
store_header kind version n = record { layout = layout kind version; cells = n }

-- The store whose header stands in x: one of version 2, or else one of version 1. The number of version 1 may be any.
pub data HeaderStands (x : List ℕ) : Option StoreHeader → Type 0 where
  in_second : (kind : Kind) (n : ℕ) → FewCells n → HasHeader (layout kind Two) n x
      → HeaderStands x (Some (store_header kind Two n))
  in_first : (kind : Kind) → ¬ HasVersionTwo x → HasFirstHead kind x
      → HeaderStands x (Some (store_header kind One (cells_counted x)))
  none_stands : ¬ HasVersionTwo x → ((kind : Kind) → ¬ HasFirstHead kind x) → HeaderStands x None
