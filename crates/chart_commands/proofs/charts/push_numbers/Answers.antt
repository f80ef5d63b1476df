use Rattle.chart_commands.specs.ChartTexts.{four_numbers, three_numbers}
use Rattle.chart_commands.proofs.Pieces.{two_added}
use Rattle.chart_commands.proofs.charts.push_numbers.Goals as goal

pub returns : goal.returns
returns c =
    let first = four_numbers c.args.events c.args.sent c.args.accepted c.args.failures in
    two_added c.args.text.now.items first (three_numbers c.args.keyed c.args.cuts c.args.refused) _ _
    c.in_ok-push_four.ensures c.in_ok-push_three.ensures
