use Rattle.secoc_gateway.specs.Gateway.{EventStep}
use Rattle.secoc_gateway.specs.PartLaws.{GatewayRun-parts}
use Rattle.secoc_gateway.proofs.machine_laws.runs_are_of_the_node.Goals as goal

pub returns : goal.returns
returns c = λ pairs start ms last sound run. let all = GatewayRun-parts EventStep pairs start ms last run in (all.parts, all.run, all.are)
