use Rattle.std.proofs.Common.{arith, rules}
use Rattle.bus_world.specs.declared.start.Start.TheVariants.{Format}
use Rattle.bus_commands.specs.Steps.{refused_trial}
use Rattle.bus_world.proofs.CallerLemmas.{Comes-unstarted, as_many_nodes}
use Rattle.bus_commands.proofs.Summing.{summed_turns}
use Rattle.bus_commands.proofs.Summed.{Comes-summed}
use Rattle.bus_commands.proofs.trial.trial.Goals as goal

pub finish-requires : goal.finish-requires
finish-requires g c =
    omega (
      arith,
      c.in-Ok.ensures.room,
      c.in-Ok.ensures.started.nodes.count,
      as_many_nodes c.in-Ok.world c.count_run.ensures.counted.moments c.count_run.new.machine c.count_run.ensures.counted.run,
    )

pub returns-in-Err : goal.returns-in-Err
returns-in-Err g c = record {
  row = c.start_refusal.result;
  comes = refused_trial c.start_refusal.result
      (Comes-unstarted _ Format c.args.bus.now _ c.in-Err.fault c.start_refusal.result c.requires.is_bus.most c.in-Err.ensures.refused c.in-Err.ensures.unread c.start_refusal.ensures);
  told = c.tell_refusal-in-Err.ensures;
}

pub returns : goal.returns
returns g c =
    Comes-summed c.starts_are_set_up.ensures c.turns_leave_disks.ensures c.trials_are_runs.ensures _ c.args.bus.now c.args.events.now _ _ c.count_run.new.tally
    (record {
      is_bus = c.requires.is_bus;
      start = c.in-Ok.world;
      now = c.count_run.new.machine;
      started = c.in-Ok.ensures.started;
      turns = summed_turns c.in-Ok.world c.count_run.new.machine _ c.count_run.new.tally c.args.events.now c.none-summary.ensures c.count_run.ensures.counted;
      disks = search rules;
    })
    c.tell_summary.ensures
