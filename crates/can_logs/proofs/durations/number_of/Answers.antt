use Rattle.std.proofs.Common.{◌+◌, ◌*◌, ap, ◌∙◌, arith}
use Rattle.can_logs.proofs.SecondDigits.{digit_from, number_more, part_small}
use Rattle.can_logs.proofs.durations.number_of.Goals as goal

pub overflow_mul-number : goal.overflow_mul-number
overflow_mul-number c =
    omega (arith, c.loop-digit.invariant, part_small c.args.digits.now c.loop-digit.digit-index c.requires.digits c.requires.few)

pub overflow_add-number : goal.overflow_add-number
overflow_add-number c =
    let digit = digit_from c.args.digits.now c.loop-digit.digit-index c.requires.digits (omega (arith, c.loop-digit-test.true)) in
    omega (arith, c.loop-digit.invariant, c.from.ensures, digit.1, part_small c.args.digits.now c.loop-digit.digit-index c.requires.digits c.requires.few)

pub loop-digit-preserved : goal.loop-digit-preserved
loop-digit-preserved c =
    ap (λ n. c.loop-digit.number * 10 + n) c.from.ensures
    ∙ number_more c.args.digits.now c.loop-digit.digit-index c.loop-digit.number c.requires.digits (omega (arith, c.loop-digit-test.true)) c.loop-digit.invariant

pub returns-clause-few : goal.returns-clause-few
returns-clause-few c =
    omega (arith, c.loop-digit.invariant, part_small c.args.digits.now c.loop-digit.digit-index c.requires.digits c.requires.few)
