use Rattle.bus_laws.proofs.Determined.{same_run}
use Rattle.bus_laws.proofs.laws.lines_determine_worlds.Goals as goal

pub returns : goal.returns
returns c = λ start ms last first run ns other run2 alike. same_run start ms ns last other first.sound alike run run2
