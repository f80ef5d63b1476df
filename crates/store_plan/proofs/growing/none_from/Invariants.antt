use Rattle.std.proofs.Common.{◌≡◌, ◌+◌, ◌<◌, ◌≤◌, ℕ, None, length}
use Rattle.cell_store.specs.Twin.{twin_size, cell_at}
use Rattle.store_plan.proofs.growing.none_from.Given as goal

-- no cell before this one counts
abbrev pub invariant-loop-cell : goal.invariant-loop-cell
invariant-loop-cell l = (j : ℕ) → l.from ≤ j → j < l.cell → twin_size (j + 1) ≤ length l.image → cell_at l.image j ≡ None
