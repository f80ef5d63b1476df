use Rattle.store_growing.specs.RouteCells.{HaveCells}
use Rattle.store_growing.proofs.looking.held_first.Given as goal

abbrev pub invariant-loop-place : goal.invariant-loop-place
invariant-loop-place l = HaveCells l.routes l.image l.place
