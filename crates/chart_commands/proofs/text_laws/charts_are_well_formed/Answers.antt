use Rattle.chart_commands.proofs.ChartElements.{IsDocument-chart}
use Rattle.chart_commands.proofs.text_laws.charts_are_well_formed.Goals as goal

pub returns : goal.returns
returns c = IsDocument-chart
