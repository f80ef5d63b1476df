use Rattle.bus_world.proofs.Starting.{begins_at_first}
use Rattle.bus_world.proofs.run_laws.starts_begin_at_the_first_world.Goals as goal

pub returns : goal.returns
returns c = begins_at_first c.named_buses_are_buses.ensures c.buses_begin_first.ensures
