use Rattle.bus_laws.proofs.Rising.{AllCovered-run}
use Rattle.bus_laws.proofs.laws.all_freshness_is_covered.Goals as goal

pub returns : goal.returns
returns c = λ start ms last first run. AllCovered-run start ms last first.sound run
