use Rattle.chart_commands.proofs.ChartDrawing.{lifelines_of}
use Rattle.chart_commands.proofs.mark_laws.down_is_drawn_down.Goals as goal

pub returns : goal.returns
returns c = lifelines_of
