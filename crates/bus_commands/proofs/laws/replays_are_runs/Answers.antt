use Rattle.bus_commands.proofs.WholeRun.{whole_run}
use Rattle.bus_commands.proofs.laws.replays_are_runs.Goals as goal

pub returns : goal.returns
returns c =
    whole_run c.starts_are_set_up.ensures c.starts_begin_at_the_first_world.ensures c.starts_go_on_at_a_first_world.ensures c.turns_are_world_runs.ensures
