use Rattle.bus_laws.proofs.Rising.{Single-run}
use Rattle.bus_laws.proofs.laws.no_freshness_is_sent_twice.Goals as goal

pub returns : goal.returns
returns c = λ start ms last first run one. Single-run start ms last first.sound one run
