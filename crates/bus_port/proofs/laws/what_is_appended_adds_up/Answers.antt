use Rattle.bus_port.proofs.CallerLemmas.{Appended-more}
use Rattle.bus_port.proofs.laws.what_is_appended_adds_up.Goals as goal

pub returns : goal.returns
returns c = λ first before after some more p q. Appended-more p q
