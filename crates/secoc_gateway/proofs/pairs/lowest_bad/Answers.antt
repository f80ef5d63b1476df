use Rattle.std.proofs.Common.{arith}
use Rattle.secoc_gateway.proofs.Few.{few_good}
use Rattle.secoc_gateway.proofs.pairs.lowest_bad.Goals as goal

pub overflow_cast-result : goal.overflow_cast-result
overflow_cast-result c =
    let most = few_good c.args.routes.now c.args.pairs.now c.loop-place.place c.requires (omega (arith, c.loop-place-test.true)) c.loop-place.invariant in
    omega (arith, most)

pub returns-then-not-is_good_after-clause-within : goal.returns-then-not-is_good_after-clause-within
returns-then-not-is_good_after-clause-within c =
    few_good c.args.routes.now c.args.pairs.now c.loop-place.place c.requires (omega (arith, c.loop-place-test.true)) c.loop-place.invariant
