use Rattle.std.proofs.Common.{◌<◌, ◌≤◌, ℕ, IsSome, length}
use Rattle.cell_store.specs.Twin.{twin_size, cell_at}
use Rattle.store_plan.proofs.growing.cells_counted.Given as goal

-- each cell before this one counts, and the image has room for them
abbrev pub invariant-loop-cell : goal.invariant-loop-cell
invariant-loop-cell l = (twin_size l.cell ≤ length l.image) × ((j : ℕ) → j < l.cell → IsSome (cell_at l.image j))
