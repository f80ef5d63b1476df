use Rattle.std.proofs.Common.{◌<◌, ℕ}
use Rattle.rathonsi_c.specs.declared.TheConstants.{OK}
use Rattle.rathonsi_c.specs.Opening.{OpensAt}
use Rattle.rathonsi_c.proofs.opening.first_unopened.Given as goal

-- every route before this one may be opened
abbrev pub invariant-loop-k : goal.invariant-loop-k
invariant-loop-k l = (i : ℕ) → i < l.k → OpensAt l.routes l.image i OK
