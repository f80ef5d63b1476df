use Rattle.bus_laws.proofs.Rising.{Rising-run}
use Rattle.bus_laws.proofs.laws.accepted_freshness_rises.Goals as goal

pub returns : goal.returns
returns c = λ start ms last first run. Rising-run start ms last first.sound run
