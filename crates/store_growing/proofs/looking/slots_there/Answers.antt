use Rattle.store_growing.proofs.SlotsFirst.{slots_more}
use Rattle.store_growing.proofs.looking.slots_there.Goals as goal

pub loop-cell-preserved : goal.loop-cell-preserved
loop-cell-preserved c =
    slots_more c.args.image.now c.loop-cell.cell c.loop-cell.invariant c.in_ok-slot_there.ensures.holds
