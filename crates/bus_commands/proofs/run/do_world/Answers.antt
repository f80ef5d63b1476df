use Rattle.bus_commands.proofs.Doing.{does_replay}
use Rattle.bus_commands.proofs.run.do_world.Goals as goal

pub returns-in-Replay : goal.returns-in-Replay
returns-in-Replay g c = does_replay _ c.args.job.now c.in-Replay.start _ _ c.in-Replay.is (rw (← c.as_slice.ensures.value) c.replay.ensures)
