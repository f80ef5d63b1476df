use Rattle.std.proofs.Common.{◌<◌, ℕ, IsSome}
use Rattle.cell_store.specs.Twin.{cell_at}
use Rattle.store_plan.proofs.images.check.Given as goal

-- every cell before this one has a copy that counts
abbrev pub invariant-loop-cell : goal.invariant-loop-cell
invariant-loop-cell l = (i : ℕ) → i < l.cell → IsSome (cell_at l.image i)
