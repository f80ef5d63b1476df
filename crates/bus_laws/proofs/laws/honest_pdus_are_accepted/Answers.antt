use Rattle.bus_laws.proofs.Hearing.{IsHeard-run}
use Rattle.bus_laws.proofs.laws.honest_pdus_are_accepted.Goals as goal

pub returns : goal.returns
returns c = λ start ms last first run i number line after s h step. IsHeard-run start ms last first.sound first.nothing_sent run i number line after s h step
