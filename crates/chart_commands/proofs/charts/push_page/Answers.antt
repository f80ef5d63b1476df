use Rattle.std.specs.Prelude.{length, codes}
use Rattle.chart_commands.specs.declared.constants.TheConstants.{LEGEND}
use Rattle.chart_commands.specs.ChartTexts.{page_rect, chart_counts}
use Rattle.chart_commands.proofs.Pieces.{five_added}
use Rattle.chart_commands.proofs.charts.push_page.Goals as goal

pub returns : goal.returns
returns c =
    five_added c.args.text.now.items (page_rect c.args.width c.args.height)
    (codes "<text class=\"name\" x=\"16\" y=\"28\">A run of the bus</text><text x=\"16\" y=\"50\">")
    (chart_counts (length c.args.events.now) c.args.lines.now) (codes "</text>\n") LEGEND.now _ _ _ _ _
    c.in_ok-push_page_rect.ensures c.in_ok-extend_from_slice.ensures.items c.in_ok-push_counts.ensures
    c.in_ok-extend_from_slice-2.ensures.items c.in_ok-extend_from_slice-3.ensures.items
