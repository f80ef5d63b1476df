use Rattle.std.proofs.Common.{◌<◌, ℕ}
use Rattle.rathonsi_c.specs.Stale.{CellFalls}
use Rattle.rathonsi_c.proofs.stale.is_stale.Given as goal

-- no cell before this one falls
abbrev pub invariant-loop-cell : goal.invariant-loop-cell
invariant-loop-cell l = (i : ℕ) → i < l.cell → ¬ CellFalls l.image l.plan i
