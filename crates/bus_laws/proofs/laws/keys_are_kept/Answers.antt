use Rattle.bus_laws.proofs.Keys.{KeysKept-run}
use Rattle.bus_laws.proofs.laws.keys_are_kept.Goals as goal

pub returns : goal.returns
returns c = λ start ms last first run. KeysKept-run start ms last first.sound run
