use Rattle.chart_commands.specs.ChartTexts.{lifeline_text}
use Rattle.chart_commands.proofs.Pieces.{pushed_more}
use Rattle.chart_commands.proofs.lifeline_paths.push_lifelines.Goals as goal

pub loop-node-preserved : goal.loop-node-preserved
loop-node-preserved c =
    pushed_more (lifeline_text c.args.events.now c.args.lines.now) c.loop-node.node c.args.text.now.items c.loop-node.text.items c.push_lifeline.new.text.items
    c.loop-node.invariant c.in_ok-push_lifeline.ensures
