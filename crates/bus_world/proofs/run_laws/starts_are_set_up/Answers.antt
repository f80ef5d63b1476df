use Rattle.bus_world.proofs.Starting.{sets_up}
use Rattle.bus_world.proofs.run_laws.starts_are_set_up.Goals as goal

pub returns : goal.returns
returns c = sets_up
