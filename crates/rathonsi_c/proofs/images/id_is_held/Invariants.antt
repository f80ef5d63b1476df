use Rattle.std.proofs.Common.{◌≢◌, ◌<◌, ◌≤◌, ℕ}
use Rattle.rathonsi_c.specs.Images.{NoBound}
use Rattle.rathonsi_c.proofs.images.id_is_held.Given as goal

-- no cell of a route before this one, but its own, keeps a bound of the Data ID and direction
abbrev pub invariant-loop-cell : goal.invariant-loop-cell
invariant-loop-cell l = (i : ℕ) → 14 ≤ i → i < l.cell → i ≢ l.own → NoBound l.image i l.id l.direction
