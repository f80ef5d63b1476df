use Rattle.store_growing.specs.RouteCells.{HaveSlots}
use Rattle.store_growing.proofs.looking.slots_there.Given as goal

abbrev pub invariant-loop-cell : goal.invariant-loop-cell
invariant-loop-cell l = HaveSlots l.image l.cell
