use Rattle.bus_laws.proofs.FirstWorld.{is_first, one_sender}
use Rattle.bus_laws.proofs.laws.buses_begin_first.Goals as goal

pub returns : goal.returns
returns c = λ bus is. (is_first bus is, one_sender bus is)
