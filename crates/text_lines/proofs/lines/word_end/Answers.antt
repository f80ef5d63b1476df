use Rattle.std.proofs.Common.{◌+◌, arith}
use Rattle.text_lines.specs.Lines.{ends_word}
use Rattle.text_lines.proofs.Stops.{stop_is_near, stop_is_far, stop_is_end}
use Rattle.text_lines.proofs.lines.word_end.Goals as goal

pub loop-at-init : goal.loop-at-init
loop-at-init c = record {
  none = λ k low high. absurd (omega arith);
  behind = omega arith;
  inside = omega arith;
}

pub loop-at-preserved : goal.loop-at-preserved
loop-at-preserved c =
    let so_far = c.loop-at.invariant in
    record {
      none = stop_is_far ends_word c.args.text.now c.args.start c.loop-at.at c.min-end.result (c.loop-at.at + c.until_stop.result) so_far.none (omega arith) (omega arith) (cc) (omega arith);
      behind = omega arith;
      inside = omega arith;
    }

pub returns-then-stop-end-clause-exact : goal.returns-then-stop-end-clause-exact
returns-then-stop-end-clause-exact c =
    let so_far = c.loop-at.invariant in
    stop_is_near ends_word c.args.text.now c.args.start c.loop-at.at c.min-end.result _ so_far.none so_far.behind (omega arith) (omega arith) (cc) (omega arith)

pub returns-clause-exact : goal.returns-clause-exact
returns-clause-exact c =
    let so_far = c.loop-at.invariant in
    stop_is_end ends_word c.args.text.now c.args.start c.loop-at.at so_far.none so_far.behind so_far.inside (omega arith)
