use Rattle.std.proofs.Common.{◌+◌, ◌++◌, ◌∙◌, ap}
use Rattle.chart_commands.specs.Places.{row_top, row_axis}
use Rattle.chart_commands.specs.ChartTexts.{class_name, title_of_row, band_text, number_text}
use Rattle.chart_commands.proofs.Pieces.{three_added}
use Rattle.chart_commands.proofs.rows.push_front.Goals as goal

pub returns : goal.returns
returns c =
    let row = c.args.mark.now.row in
    three_added c.args.text.now.items (title_of_row (class_name c.args.mark.now.kind) row c.args.line.now) (band_text (row_top row)) (number_text (row_axis row + 4) row) _ _ _
    (c.in_ok-push_title.ensures ∙ ap (λ k. c.args.text.now.items ++ title_of_row k row c.args.line.now) c.class_name.ensures)
    (c.in_ok-push_band.ensures ∙ ap (λ n. c.push_title.new.text.items ++ band_text n) c.row_top.ensures)
    (c.in_ok-push_number.ensures ∙ ap (λ n. c.push_band.new.text.items ++ number_text (n + 4) row) c.row_axis.ensures)
