use Rattle.std.proofs.Common.{◌<◌, ℕ}
use Rattle.rathonsi_c.specs.declared.TheConstants.{OK}
use Rattle.rathonsi_c.specs.Looking.{CellLooks}
use Rattle.rathonsi_c.proofs.looking.first_odd.Given as goal

-- every cell before this one is as it should be
abbrev pub invariant-loop-cell : goal.invariant-loop-cell
invariant-loop-cell l = (i : ℕ) → i < l.cell → CellLooks l.image i OK
