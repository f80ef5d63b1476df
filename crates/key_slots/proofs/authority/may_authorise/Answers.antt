-- Each way out by the rule of the pairs.
use Rattle.std.proofs.Common.{true, ◌==◌}
use Rattle.key_slots.proofs.PairRule.{by_master, by_second, by_own, of_same}
use Rattle.key_slots.proofs.authority.may_authorise.Goals as goal

pub returns-then-authority-eq1 : goal.returns-then-authority-eq1
returns-then-authority-eq1 c =
    let t = c.number-target.ensures in
    let a = c.number-authority.ensures in
    of_same true c.number-target.result c.number-authority.result c.args.id c.args.auth t.value a.value
    (by_master c.number-target.result c.number-authority.result c.if-target-eq0.false t.bound c.if-authority-eq1.true)

pub returns-then-target-eq3 : goal.returns-then-target-eq3
returns-then-target-eq3 c =
    let t = c.number-target.ensures in
    let a = c.number-authority.ensures in
    of_same (c.number-authority.result == 2) c.number-target.result c.number-authority.result c.args.id c.args.auth
    t.value a.value
    (by_second c.number-target.result c.number-authority.result c.if-target-eq0.false t.bound
    c.if-authority-eq1.false c.if-target-eq3.true)

pub returns-else-target-eq3 : goal.returns-else-target-eq3
returns-else-target-eq3 c =
    let t = c.number-target.ensures in
    let a = c.number-authority.ensures in
    of_same (c.number-authority.result == c.number-target.result) c.number-target.result c.number-authority.result
    c.args.id c.args.auth t.value a.value
    (by_own c.number-target.result c.number-authority.result c.if-target-eq0.false t.bound c.if-authority-eq1.false
    c.if-target-eq3.false)
