use Rattle.std.proofs.Common.{arith, rules, map}
use Rattle.bus_commands.specs.Replays.{ReplayTurns}
use Rattle.bus_commands.specs.Steps.{refused_replay, first_done}
use Rattle.bus_world.proofs.CallerLemmas.{Comes-unstarted, as_many_nodes}
use Rattle.bus_commands.proofs.WholeRun.{replay_stays}
use Rattle.bus_commands.proofs.replay.replay.Goals as goal

pub finish-requires : goal.finish-requires
finish-requires g c =
    omega (
      arith,
      c.in-Ok.ensures.room,
      c.in-Ok.ensures.started.nodes.count,
      as_many_nodes c.in-Ok.world c.print_run-printed.ensures.printed.moments c.print_run-printed.new.machine c.print_run-printed.ensures.printed.run,
    )

pub returns-in-Err : goal.returns-in-Err
returns-in-Err g c = refused_replay (record {
  row = c.start_refusal.result;
  comes = Comes-unstarted _ c.args.start c.args.bus.now _ c.in-Err.fault c.start_refusal.result c.requires.is_bus.most c.in-Err.ensures.refused c.in-Err.ensures.unread c.start_refusal.ensures;
  told = c.tell_refusal-in-Err.ensures;
})

pub returns : goal.returns
returns g c =
    let ran : ReplayTurns c.args.start c.args.bus.now (map g.D.Disk.state c.args.disks.now.items) (map g.D.Disk.state c.finish.new.disks.items) c.args.events.now
    (g.K.Sink.state c.args.sink.now) (g.K.Sink.state c.print_run-printed.new.sink) c.print_run-printed.result = search rules in
    first_done c.print_run-printed.result (record {
      ran = ran;
      status_is = c.status_of_run.ensures;
      stay = replay_stays _ _ _ _ _ _ _ _ ran c.starts_are_set_up.ensures c.turns_leave_disks.ensures;
      one_run = c.replays_are_runs.ensures _ _ _ _ _ _ _ _ ran;
    })
