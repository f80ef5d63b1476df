use Rattle.std.proofs.Common.{◌==◌, get_or, arith}
use Rattle.watch_expect.proofs.LastLines.{begins_at, begins_before}
use Rattle.watch_expect.proofs.texts.last_line.Goals as goal

pub loop-place-preserved : goal.loop-place-preserved
loop-place-preserved c = record {
  line_is = begins_at c.args.text.now c.loop-place.place c.loop-place.start c.start_behind-start.result (omega (arith, c.loop-place-test.true)) c.loop-place.invariant.few
      c.loop-place.invariant.line_is c.start_behind-start.ensures;
  few = begins_before c.loop-place.place c.loop-place.start c.start_behind-start.result (get_or c.args.text.now c.loop-place.place 0 == 10) c.loop-place.invariant.few
      c.start_behind-start.ensures;
}
