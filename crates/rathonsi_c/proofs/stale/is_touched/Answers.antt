use Rattle.std.proofs.Common.{arith}
use Rattle.rathonsi_c.proofs.StaleLaws.{once, twice, once-long, twice-long, fits-second, fits-third, plan-beside}
use Rattle.rathonsi_c.proofs.stale.is_touched.Goals as goal

pub returns : goal.returns
returns c = λ off x f room.
    let plan = c.args.plan.now in
    plan-beside plan x f c.args.cell room
    (c.reaches.ensures c.if-reaches.false x (omega arith) f.first)
    (c.reaches-2.ensures c.if-reaches-2.false (once plan x f) (let l = once-long plan x f in omega arith) (fits-second plan x f))
    (c.reaches-3.ensures off (twice plan x f) (let l = twice-long plan x f in omega arith) (fits-third plan x f))
