use Rattle.bus_laws.proofs.FirstWorld.{has_nodes}
use Rattle.bus_laws.proofs.laws.buses_begin_with_their_nodes.Goals as goal

pub returns : goal.returns
returns c = has_nodes
