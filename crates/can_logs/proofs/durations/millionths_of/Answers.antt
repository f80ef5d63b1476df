use Rattle.std.proofs.Common.{◌≤◌, ◌*◌, ◌^◌, ◌-◌, length, sym, subst, arith}
use Rattle.can_logs.proofs.SecondDigits.{product_small}
use Rattle.can_logs.proofs.durations.millionths_of.Goals as goal

pub overflow_mul-result : goal.overflow_mul-result
overflow_mul-result c =
    let few : c.number_of-2.result * c.pow.result ≤ 10 ^ 18 =
    subst (λ n. c.number_of-2.result * n ≤ 10 ^ 18) (sym c.pow.ensures)
    (product_small c.number_of-2.result (6 - length c.args.fraction.now) c.number_of-2.ensures.few (omega arith)) in
    omega (arith, few)

pub returns-clause-few : goal.returns-clause-few
returns-clause-few c =
    subst (λ n. c.number_of-2.result * n ≤ 10 ^ 18) (sym c.pow.ensures)
    (product_small c.number_of-2.result (6 - length c.args.fraction.now) c.number_of-2.ensures.few (omega arith))
