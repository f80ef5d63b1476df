use Rattle.std.proofs.Common.{◌+◌, ◌++◌, ◌∙◌, [], ap, sym, append-nil}
use Rattle.std.specs.Prelude.{nat_lt}
use Rattle.chart_commands.specs.Places.{wait, arrow, lifeline_x, row_axis, gutter, arrow_end, arrow_head}
use Rattle.chart_commands.specs.ChartTexts.{place_text}
use Rattle.chart_commands.proofs.Pieces.{two_added}
use Rattle.chart_commands.proofs.rows.push_led.Goals as goal

pub returns : goal.returns
returns c =
    let x = lifeline_x c.args.sender in
    let begin = x + gutter c.args.number in
    let axis = row_axis c.args.row in
    let right = nat_lt c.args.sender c.args.node in
    let waits = place_text (wait (x + 6) (row_axis c.args.number) begin axis) in
    let leads = place_text (arrow begin axis (arrow_end right c.args.accepted c.args.node) (arrow_head right c.args.accepted)) in
    two_added c.args.text.now.items waits (leads ++ []) _ _ c.in_ok-push_waiting.ensures
    (c.in_ok-push_led_arrow.ensures ∙ ap (λ xs. c.push_waiting.new.text.items ++ xs) (sym (append-nil leads)))
