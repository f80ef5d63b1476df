use Rattle.std.specs.Prelude.{None}
use Rattle.std.proofs.Common.{subst}
use Rattle.bus_machine.specs.Steps.{receives}
use Rattle.secoc_node.specs.Lines.{received_line}
use Rattle.secoc_node.specs.State.{Served}
use Rattle.secoc_gateway.specs.State.{GatewayState, over}
use Rattle.bus_world.proofs.CallerLemmas.{step_config}
use Rattle.secoc_gateway.proofs.Paired.{AreGood-same}
use Rattle.secoc_gateway.proofs.gateway.Gateway.receive.Goals as goal

pub invariant_of-self : goal.invariant_of-self
invariant_of-self g c =
    AreGood-same c.self.inside.node.node c.receive.new.self.node c.self.inside.pairs.items
    (step_config c.self.inside.node.node (receives c.args.id c.args.pdu.now) (received_line c.args.id c.args.pdu.now None c.receive.result) c.receive.new.self.node (c.receive.ensures.step None))
    c.self.invariant

pub returns-clause-serves : goal.returns-clause-serves
returns-clause-serves g c = subst (λ (s : GatewayState). Served (over s) c.receive.new.self c.receive.result) c.self.view_is c.receive.ensures.serves
