use Rattle.std.proofs.Common.{◌≡◌, ◌++◌, ◌∙◌, ap, length, ℕ, List, []}
use Rattle.std.specs.Prelude.{codes}
use Rattle.std.specs.List.{flat_map, range_with_len}
use Rattle.chart_commands.specs.Marks.{row_marks}
use Rattle.chart_commands.specs.Places.{head_count}
use Rattle.chart_commands.specs.ChartTexts.{opening_text, page_text, chart_counts, lifeline_text, rows_text, header_text}
use Rattle.chart_commands.proofs.Pieces.{six_added}
use Rattle.chart_commands.proofs.charts.sized_chart.Goals as goal

pub returns : goal.returns
returns c =
    let events = c.args.events.now in
    let lines = c.args.lines.now in
    let nodes = c.args.bus.now.nodes in
    let empty : c.in_ok-text.text.items ≡ [] = c.in_ok-text.ensures.items in
    let opened : c.push_opening.new.text.items ≡ [] ++ opening_text c.args.width c.args.height =
    c.in_ok-push_opening.ensures ∙ ap (λ (xs : List ℕ). xs ++ opening_text c.args.width c.args.height) empty in
    six_added [] (opening_text c.args.width c.args.height) (page_text c.args.width c.args.height (chart_counts (length events) lines))
    (flat_map (lifeline_text events lines) (range_with_len 0 (length nodes))) (rows_text (row_marks events lines) events lines)
    (flat_map (header_text nodes) (range_with_len 0 (head_count (length events)))) (codes "</svg>\n") _ _ _ _ _ _
    opened c.in_ok-push_page.ensures
    (c.in_ok-push_lifelines.ensures ∙ ap (λ n. c.push_page.new.text.items ++ flat_map (lifeline_text events lines) (range_with_len 0 n)) (ap length c.nodes-nodes.ensures.value))
    c.in_ok-push_rows.ensures
    (c.in_ok-push_headers.ensures ∙ ap (λ ns. c.push_rows.new.text.items ++ flat_map (header_text ns) (range_with_len 0 (head_count (length events)))) c.nodes-nodes.ensures.value)
    c.in_ok-extend_from_slice.ensures.items
