use Rattle.std.proofs.Common.{◌≡◌, map, refl}
use Rattle.program_edge.specs.Endings.{Ending, EndsInRow}
use Rattle.program_edge.proofs.CallerLemmas.{EndsInRow-more}
use Rattle.bus_world.specs.StartAnswers.{DiskStates}
use Rattle.bus_world.proofs.CallerLemmas.{same_known}
use Rattle.chart_commands.specs.Steps.{AnswersChart}
use Rattle.chart_commands.specs.Rows.{without_disks}
use Rattle.chart_commands.proofs.Drawing.{ChartRow-answers}
use Rattle.chart_commands.proofs.Promised.{RunsChart-ends}
use Rattle.chart_commands.proofs.run.run_chart.Goals as goal

pub returns-in-Ok : goal.returns-in-Ok
returns-in-Ok g c =
    let d : DiskStates = record { before = map g.D.Disk.state c.args.disks.now.items; after = map g.D.Disk.state c.chart.new.disks.items } in
    let e : Ending = record { before = g.K.Sink.state c.args.sink.now; after = g.K.Sink.state c.chart.new.sink; status = c.chart.result } in
    let done : EndsInRow (AnswersChart (c.chart.new.disks ≡ c.args.disks.now) c.in-Ok.job.bus c.in-Ok.job.events.items d) e = rw (← c.as_slice.ensures.value) c.chart.ensures in
    RunsChart-ends _ _ d e (same_known g.D.Disk.state c.args.disks.now c.chart.new.disks) (EndsInRow-more (λ row answers. ChartRow-answers _ _ d c.in-Ok.job.bus c.in-Ok.job.events.items row c.in-Ok.ensures.1 answers) done)

pub returns-in-Err : goal.returns-in-Err
returns-in-Err g c =
    RunsChart-ends _ _ _ _ (λ _. refl) (record { row = c.in-Err.refusal; comes = without_disks c.in-Err.refusal c.in-Err.ensures refl; told = c.tell_refusal.ensures })
