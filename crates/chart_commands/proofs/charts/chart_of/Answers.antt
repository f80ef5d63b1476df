use Rattle.std.proofs.Common.{◌≡◌, ◌∙◌, ap, subst, length}
use Rattle.std.specs.Prelude.{IfOk}
use Rattle.chart_commands.specs.Places.{chart_width, chart_height}
use Rattle.chart_commands.specs.ChartTexts.{sized_chart}
use Rattle.chart_commands.proofs.charts.chart_of.Goals as goal

pub returns : goal.returns
returns c =
    let bus = c.args.bus.now in
    let events = c.args.events.now in
    let lines = c.args.lines.now in
    subst (λ w. IfOk c.sized_chart.result (λ text. text.items ≡ sized_chart w (chart_height (length events)) bus events lines))
    (c.chart_width-width.ensures ∙ ap (λ nodes. chart_width (length nodes)) c.nodes-nodes.ensures.value)
    (subst (λ h. IfOk c.sized_chart.result (λ text. text.items ≡ sized_chart c.chart_width-width.result h bus events lines)) c.chart_height-height.ensures c.sized_chart.ensures)
