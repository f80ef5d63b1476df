use Rattle.store_growing.specs.RouteCells.{FreeFrom}
use Rattle.store_growing.proofs.looking.used_from.Given as goal

abbrev pub invariant-loop-place : goal.invariant-loop-place
invariant-loop-place l = FreeFrom l.image l.from l.place
