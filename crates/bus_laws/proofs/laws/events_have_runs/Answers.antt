use Rattle.bus_laws.proofs.Existence.{run_of_events}
use Rattle.bus_laws.proofs.laws.events_have_runs.Goals as goal

pub returns : goal.returns
returns c = λ start events first each. run_of_events start events first.sound each
