use Rattle.bus_machine.specs.Bus.{node_at}
use Rattle.bus_laws.proofs.Hearing as proof
use Rattle.bus_laws.proofs.laws.same_key_is_honest.Goals as goal

pub returns : goal.returns
returns c = λ start ms last first run i number s d. proof.same_key_is_honest start ms last (node_at last i) number s run d
