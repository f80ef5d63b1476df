use Rattle.bus_laws.proofs.Keys.{SettledSlotsStay-run}
use Rattle.bus_laws.proofs.laws.dropped_updates_are_gone.Goals as goal

pub returns : goal.returns
returns c = λ start ms last first run. SettledSlotsStay-run start ms last first.sound run
