use Rattle.bus_lives.proofs.Chain.{unfinished_starts_leave_nodes}
use Rattle.bus_lives.proofs.laws.unfinished_starts_leave_nodes.Goals as goal

pub returns : goal.returns
returns c = unfinished_starts_leave_nodes
