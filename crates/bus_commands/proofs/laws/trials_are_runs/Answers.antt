use Rattle.bus_commands.proofs.WholeTrial.{whole_trial}
use Rattle.bus_commands.proofs.laws.trials_are_runs.Goals as goal

pub returns : goal.returns
returns c =
    whole_trial c.starts_are_set_up.ensures c.starts_begin_at_the_first_world.ensures c.turns_are_world_runs.ensures
