use Rattle.std.proofs.Common.{sym, subst, List, ℕ}
use Rattle.bus_machine.specs.declared.events.Event.{Event}
use Rattle.bus_machine.specs.declared.events.Event.TheVariants.{Inject}
use Rattle.secoc_gateway.specs.Gateway.{GatewayStep}
use Rattle.secoc_gateway.specs.State.{over}
use Rattle.secoc_gateway.specs.Turns.{EventTurn, GatewayTurn}
use Rattle.secoc_gateway.proofs.gateway.Gateway.turn.Goals as goal

pub returns-in-Some : goal.returns-in-Some
returns-in-Some g c =
    subst (λ (e : Event). GatewayTurn c.args.self.now e c.pass.result c.pass.new.self) (sym c.in-Inject.is)
    (record {
      step = subst (λ (pdu : List ℕ). GatewayStep EventTurn c.args.self.now.pairs (over c.args.self.now) (Inject c.in-Inject.node c.in-Inject.id pdu) c.pass.result (over c.pass.new.self))
          c.bytes.ensures.value (c.pass.ensures.step c.in-Inject.node);
      pairs = c.pass.ensures.pairs;
    })
