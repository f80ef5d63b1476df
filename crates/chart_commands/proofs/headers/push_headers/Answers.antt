use Rattle.chart_commands.specs.ChartTexts.{header_text}
use Rattle.chart_commands.proofs.Pieces.{pushed_more}
use Rattle.chart_commands.proofs.headers.push_headers.Goals as goal

pub loop-block-preserved : goal.loop-block-preserved
loop-block-preserved c =
    pushed_more (header_text c.args.nodes.now) c.loop-block.block c.args.text.now.items c.loop-block.text.items c.push_header.new.text.items
    c.loop-block.invariant c.in_ok-push_header.ensures
