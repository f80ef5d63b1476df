use Rattle.std.proofs.Common.{arith, rules}
use Rattle.bus_world.specs.declared.start.Start.TheVariants.{Format}
use Rattle.bus_world.proofs.CallerLemmas.{Comes-unstarted, as_many_nodes}
use Rattle.chart_commands.specs.Steps.{refused_chart, kept_lines}
use Rattle.chart_commands.proofs.Drawing.{of_events, Answers-charted}
use Rattle.chart_commands.proofs.charting.chart.Goals as goal

pub finish-requires : goal.finish-requires
finish-requires g c =
    omega (
      arith,
      c.in-Ok.ensures.room,
      c.in-Ok.ensures.started.nodes.count,
      as_many_nodes c.in-Ok.world c.lines_of_run-kept.ensures.moments c.lines_of_run-kept.new.world c.lines_of_run-kept.ensures.run,
    )

pub tell_chart-requires-clause-as_many : goal.tell_chart-requires-clause-as_many
tell_chart-requires-clause-as_many g c =
    of_events c.args.events.now (kept_lines c.lines_of_run-kept.result) c.lines_of_run-kept.ensures.moments c.lines_of_run-kept.ensures.holds

pub returns-in-Err : goal.returns-in-Err
returns-in-Err g c = record {
  row = c.start_refusal.result;
  comes = refused_chart c.start_refusal.result
      (Comes-unstarted _ Format c.args.bus.now _ c.in-Err.fault c.start_refusal.result c.requires.is_bus.most c.in-Err.ensures.refused c.in-Err.ensures.unread c.start_refusal.ensures);
  told = c.tell_refusal-in-Err.ensures;
}

pub returns : goal.returns
returns g c =
    Answers-charted c.starts_are_set_up.ensures c.turns_leave_disks.ensures c.charts_are_runs.ensures _ c.args.bus.now c.args.events.now _ _ (kept_lines c.lines_of_run-kept.result)
    (record {
      is_bus = c.requires.is_bus;
      start = c.in-Ok.world;
      now = c.lines_of_run-kept.new.world;
      started = c.in-Ok.ensures.started;
      turns = c.lines_of_run-kept.ensures;
      disks = search rules;
    })
    c.tell_chart.ensures
