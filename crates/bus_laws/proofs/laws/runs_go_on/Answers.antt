use Rattle.bus_laws.proofs.Existence.{goes_on}
use Rattle.bus_laws.proofs.laws.runs_go_on.Goals as goal

pub returns : goal.returns
returns c = λ start ms last first run event inside typed. goes_on start ms last first.sound run event inside typed
