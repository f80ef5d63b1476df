use Rattle.std.specs.Prelude.{codes}
use Rattle.chart_commands.specs.ChartTexts.{name_boxes}
use Rattle.chart_commands.proofs.Pieces.{three_added}
use Rattle.chart_commands.proofs.headers.push_header.Goals as goal

pub returns : goal.returns
returns c =
    three_added c.args.text.now.items (codes "<g class=\"head\">") (name_boxes c.args.block 0 c.args.nodes.now) (codes "</g>\n") _ _ _
    c.in_ok-extend_from_slice.ensures.items c.in_ok-push_names.ensures c.in_ok-extend_from_slice-2.ensures.items
