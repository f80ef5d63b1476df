use Rattle.std.proofs.Common.{take, sym, arith, take_all}
use Rattle.std.proofs.lemmas.List.{length-take, length-take-le}
use Rattle.watch_expect.proofs.texts.first_bytes.Goals as goal

pub returns-then-text-le-TOLD_MOST-clause-bytes : goal.returns-then-text-le-TOLD_MOST-clause-bytes
returns-then-text-le-TOLD_MOST-clause-bytes c = sym (take_all 4096 c.args.text.now (omega (arith, c.if-text-le-TOLD_MOST.true)))

pub slice_bounds-result-end : goal.slice_bounds-result-end
slice_bounds-result-end c = sym (length-take-le 4096 c.args.text.now (omega (arith, c.if-text-le-TOLD_MOST.false)))

pub returns-clause-few : goal.returns-clause-few
returns-clause-few c = omega (arith, length-take 4096 c.args.text.now)
