use Rattle.bus_laws.proofs.OneLine.{same_events}
use Rattle.bus_laws.proofs.laws.events_determine_lines.Goals as goal

pub returns : goal.returns
returns c = λ start ms last first run ns other run2 e c d. same_events start ms ns last other first.sound e c d run run2
