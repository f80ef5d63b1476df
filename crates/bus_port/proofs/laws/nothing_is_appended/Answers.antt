use Rattle.bus_port.proofs.CallerLemmas.{Appended-nothing}
use Rattle.bus_port.proofs.laws.nothing_is_appended.Goals as goal

pub returns : goal.returns
returns c = Appended-nothing
