use Rattle.std.specs.Prelude.{codes}
use Rattle.chart_commands.specs.declared.constants.TheConstants.{STYLE}
use Rattle.chart_commands.specs.ChartTexts.{whole_tag}
use Rattle.chart_commands.proofs.Pieces.{six_added}
use Rattle.chart_commands.proofs.charts.push_opening.Goals as goal

pub returns : goal.returns
returns c =
    six_added c.args.text.now.items (whole_tag c.args.width c.args.height)
    (codes "<title>A run of the bus</title>\n<desc>One lifeline a node, one row an event. ")
    (codes "An arrow leads from the row of what was sent, along the lifeline of its sender, to the receiver.")
    (codes "</desc>\n<style>") STYLE.now (codes "</style>\n") _ _ _ _ _ _
    c.in_ok-push_tag.ensures c.in_ok-extend_from_slice.ensures.items c.in_ok-extend_from_slice-2.ensures.items
    c.in_ok-extend_from_slice-3.ensures.items c.in_ok-extend_from_slice-4.ensures.items c.in_ok-extend_from_slice-5.ensures.items
