use Rattle.std.proofs.Common.{subst}
use Rattle.secoc_node.specs.State.{Served}
use Rattle.secoc_gateway.specs.State.{GatewayState, over}
use Rattle.secoc_gateway.proofs.gateway.Gateway.load.Goals as goal

pub returns-clause-serves : goal.returns-clause-serves
returns-clause-serves g c = subst (λ (s : GatewayState). Served (over s) c.load.new.self c.load.result) c.self.view_is c.load.ensures.serves
