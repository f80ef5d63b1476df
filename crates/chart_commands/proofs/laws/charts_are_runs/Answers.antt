use Rattle.chart_commands.proofs.OneChart.{whole_chart}
use Rattle.chart_commands.proofs.laws.charts_are_runs.Goals as goal

pub returns : goal.returns
returns c =
    whole_chart c.starts_are_set_up.ensures c.starts_begin_at_the_first_world.ensures c.turns_are_world_runs.ensures
