use Rattle.freshness_routes.specs.declared.routes.Direction.TheVariants.{Receives}
use Rattle.secoc_gateway.proofs.Rising.{Rises-run}
use Rattle.secoc_gateway.proofs.machine_laws.arrivals_rise.Goals as goal

pub returns : goal.returns
returns c = λ pairs start ms last sound run. Rises-run pairs start ms last Receives sound run
