-- A store of either kind.
use Rattle.std.specs.Prelude.{ℕ, ◌+◌, ◌*◌}
use Rattle.cell_store.specs.declared.kinds.Kind.{Kind}
use Rattle.cell_store.specs.declared.kinds.Kind.TheVariants as kind
pub use Rattle.cell_store.specs.Layout.{layout}
use Rattle.cell_store.specs.Cells.{CellsState}
use Rattle.any_cells.specs.declared.AnyCells.{AnyCells}
use Rattle.any_cells.specs.declared.AnyCells.TheVariants.{Twin, Log}

-- how many calls a format of n cells makes
abbrev pub format_calls : Kind → ℕ → ℕ
format_calls kind.Twin n = 5 + n
format_calls kind.Log n = 147 + 2 * n

-- what either store means
abbrev pub any_state : {D : Type 0} → AnyCells D → CellsState
any_state (Twin s) = s
any_state (Log s) = s
