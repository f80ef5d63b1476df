use Rattle.chart_commands.specs.Labels.{delivered_label}
use Rattle.chart_commands.proofs.Pieces.{two_added}
use Rattle.chart_commands.proofs.labels.push_failure.Goals as goal

pub returns : goal.returns
returns c =
    two_added c.args.text.now.items c.args.name.now (delivered_label c.args.event.now) _ _
    c.in_ok-extend_from_slice.ensures.items c.in_ok-push_delivered.ensures
