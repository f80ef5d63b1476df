use Rattle.std.proofs.Common.{◌∙◌, ap, Err, arith}
use Rattle.std.proofs.lemmas.Result.{err_from_is_err_and}
use Rattle.text_lines.specs.Readings.{read_all}
use Rattle.text_lines.proofs.Folds.{fold_begin, fold_kept, fold_skipped, fold_ended, fold_done}
use Rattle.text_lines.proofs.reader.read_lines.Goals as goal
use Rattle.text_lines.proofs.reader.read_lines.Goals.{then-not-is_skipped+in_ok-read_line, else-not-is_skipped}

pub loop-at-init : goal.loop-at-init
loop-at-init g c = record {
  whole = fold_begin (g.R.LineReader.means c.args.reader.now) c.args.most c.args.text.now c.new-items.result.items c.new-items.ensures.items;
  numbered = omega arith;
  inside = omega arith;
  short = omega arith;
}

pub returns-in_err-read_line : goal.returns-in_err-read_line
returns-in_err-read_line g c =
    let out = err_from_is_err_and c.from_residual-in_err-read_line.result c.from_residual-in_err-read_line.ensures.1 in
    fold_ended (g.R.LineReader.means c.args.reader.now) c.args.most c.args.text.now c.loop-at.number c.loop-at.at c.in_ok-end.end c.put_line.new.spans.items
    c.of.result c.loop-at.items.items c.read_line.new.items.items (read_all (g.R.LineReader.means c.args.reader.now) c.args.most c.args.text.now) c.read_line.result c.in_err-read_line.field-0.0 c.from_residual-in_err-read_line.result
    c.in_ok-end.ensures.end c.in_ok-end.ensures.exact (cc) (cc)
    c.read_line.ensures c.in_err-read_line.was (out.1 ∙ ap Err out.2) c.loop-at.invariant.whole

pub loop-at-preserved : goal.loop-at-preserved
loop-at-preserved g c =
    let so_far = c.loop-at.invariant in
    elim c.if-not-is_skipped.branch [
      | then-not-is_skipped+in_ok-read_line w ↦
          record {
            whole = fold_kept (g.R.LineReader.means c.args.reader.now) c.args.most c.args.text.now c.loop-at.number c.loop-at.at c.in_ok-end.end c.put_line.new.spans.items
                w.of.result c.loop-at.items.items c.if-not-is_skipped.items.items w.in_ok-read_line.ensures.0 (read_all (g.R.LineReader.means c.args.reader.now) c.args.most c.args.text.now)
                c.in_ok-end.ensures.end c.in_ok-end.ensures.exact (cc) (cc) w.in_ok-read_line.ensures.1 (cc w.in_ok-read_line.ensures.2) so_far.whole;
            numbered = omega (arith, c.in_ok-end.ensures.behind);
            inside = omega (arith, c.in_ok-end.ensures.within);
            short = so_far.short;
          }
      | else-not-is_skipped w ↦ record {
        whole = fold_skipped (g.R.LineReader.means c.args.reader.now) c.args.most c.args.text.now c.loop-at.number c.loop-at.at c.in_ok-end.end c.put_line.new.spans.items
            c.loop-at.items.items c.if-not-is_skipped.items.items (read_all (g.R.LineReader.means c.args.reader.now) c.args.most c.args.text.now) c.in_ok-end.ensures.end c.in_ok-end.ensures.exact (cc) (cc) so_far.whole;
        numbered = omega (arith, c.in_ok-end.ensures.behind);
        inside = omega (arith, c.in_ok-end.ensures.within);
        short = so_far.short;
      }
    ]

pub returns : goal.returns
returns g c = fold_done (g.R.LineReader.means c.args.reader.now) c.args.most c.args.text.now c.loop-at.number c.loop-at.at _ _ c.loop-at-test.false c.loop-at.invariant.whole
