use Rattle.secoc_gateway.proofs.Forwarding.{AllForwardRight-run}
use Rattle.secoc_gateway.proofs.machine_laws.forwards_what_arrived.Goals as goal

pub returns : goal.returns
returns c = λ pairs start ms last sound run. AllForwardRight-run pairs start ms last run
