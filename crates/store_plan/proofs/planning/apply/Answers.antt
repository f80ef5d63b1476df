use Rattle.std.proofs.Common.{arith, length-take, sym}
use Rattle.store_plan.proofs.GatedLaws.{put_mid-splice, splice-empty}
use Rattle.store_plan.proofs.planning.apply.Goals as goal

pub returns-then-write-eq0 : goal.returns-then-write-eq0
returns-then-write-eq0 c = sym (splice-empty c.args.write.now c.args.image.now c.if-write-eq0.true)

pub returns : goal.returns
returns c =
    let w = c.args.write.now in
    rw c.copy_from_slice.ensures.after (put_mid-splice _ _ _ _ (omega (arith, length-take w.size w.bytes)) (omega (arith, length-take w.size w.bytes)))
