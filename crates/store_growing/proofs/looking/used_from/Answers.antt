use Rattle.store_growing.proofs.CellsWritten.{free_more}
use Rattle.store_growing.proofs.looking.used_from.Goals as goal

pub loop-place-preserved : goal.loop-place-preserved
loop-place-preserved c =
    free_more c.args.image.now c.args.from c.loop-place.place c.loop-place.invariant (c.is_free.ensures.0 c.if-not-is_free.false)
