use Rattle.bus_commands.proofs.Headlines.{headline_is_world_run}
use Rattle.bus_commands.proofs.laws.the_headline_is_a_run_of_the_bus.Goals as goal

pub returns : goal.returns
returns c = headline_is_world_run
