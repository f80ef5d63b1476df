use Rattle.bus_commands.proofs.words.with_world.Goals as goal

pub returns-in-Replay : goal.returns-in-Replay
returns-in-Replay c name asks = c.with_disk.ensures name (rw c.in-Replay.is at asks)

pub returns-in-Trial : goal.returns-in-Trial
returns-in-Trial c name asks = c.with_trial.ensures name c.args.third.now c.args.fourth.now (rw c.in-Trial.is at asks)
