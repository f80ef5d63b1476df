use Rattle.bus_laws.proofs.BusSteps.{Sound-run}
use Rattle.bus_laws.proofs.laws.runs_are_sound.Goals as goal

pub returns : goal.returns
returns c = λ start ms last first run. Sound-run start ms last first.sound run
