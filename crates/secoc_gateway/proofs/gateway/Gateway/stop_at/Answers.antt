use Rattle.std.proofs.Common.{◌≡◌, ap, subst}
use Rattle.secoc_node.specs.State.{NodeState, FitsNow}
use Rattle.secoc_gateway.specs.State.{GatewayState, over}
use Rattle.secoc_gateway.proofs.gateway.Gateway.stop_at.Goals as goal

pub returns-clause-rest : goal.returns-clause-rest
returns-clause-rest g c =
    let of_node : NodeState → GatewayState = λ n. record { node = n.node; store = n.store; pairs = c.self.inside.pairs.items } in
    subst (λ (s : GatewayState). of_node c.stop_at.new.self ≡ record s { store = record s.store { disk = c.stop_at.new.self.store.disk } }) c.self.view_is
    (ap of_node c.stop_at.ensures.rest)

pub returns-clause-fits : goal.returns-clause-fits
returns-clause-fits g c = subst (λ s. FitsNow (over s) → FitsNow c.stop_at.new.self) c.self.view_is c.stop_at.ensures.fits
