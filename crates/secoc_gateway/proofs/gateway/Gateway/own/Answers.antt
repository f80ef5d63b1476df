use Rattle.std.proofs.Common.{refl, ap, ◌∙◌, subst}
use Rattle.secoc_gateway.specs.declared.gateway_lines.GatewayLine.TheVariants.{OfNode}
use Rattle.secoc_gateway.specs.Gateway.{departs_under}
use Rattle.secoc_gateway.specs.State.{GatewayState}
use Rattle.secoc_gateway.specs.Turns.{GatewayTurn}
use Rattle.secoc_gateway.proofs.Paired.{AreGood-same}
use Rattle.secoc_gateway.proofs.Turning.{own_gateway_turn}
use Rattle.secoc_gateway.proofs.gateway.Gateway.own.Goals as goal

pub invariant_of-self : goal.invariant_of-self
invariant_of-self g c =
    AreGood-same c.self.inside.node.node c.own_turn.new.node.node c.self.inside.pairs.items c.own_turn.ensures.turn.config c.self.invariant

pub returns : goal.returns
returns g c =
    let before : GatewayState = record { node = c.self.inside.node.node; store = c.self.inside.node.store; pairs = c.self.inside.pairs.items } in
    let after : GatewayState = record { node = c.own_turn.new.node.node; store = c.own_turn.new.node.store; pairs = c.self.inside.pairs.items } in
    subst (λ (s : GatewayState). GatewayTurn s c.args.event.now (OfNode c.own_turn.result) after) c.self.view_is
    (own_gateway_turn before after c.args.event.now c.own_turn.result
    (ap (λ (s : GatewayState). departs_under s.pairs c.args.event.now) c.self.view_is ∙ c.requires.own) c.own_turn.ensures.turn c.own_turn.ensures.source refl)
