use Rattle.freshness_routes.specs.declared.routes.Direction.TheVariants.{Sends}
use Rattle.secoc_gateway.proofs.Rising.{Rises-run}
use Rattle.secoc_gateway.proofs.machine_laws.departures_rise.Goals as goal

pub returns : goal.returns
returns c = λ pairs start ms last sound run. Rises-run pairs start ms last Sends sound run
