use Rattle.std.proofs.Common.{ℕ, subst, sym, ap, ◌∙◌}
use Rattle.freshness_routes.specs.declared.routes.Direction.TheVariants.{Sends}
use Rattle.bus_machine.specs.declared.events.Event.TheVariants.{Inject}
use Rattle.bus_laws.proofs.CallerLemmas.{same_some}
use Rattle.secoc_node.specs.State.{IsCovered}
use Rattle.secoc_gateway.specs.State.{GatewayState, over}
use Rattle.secoc_gateway.specs.Arrivals.{arrival_line, IfForwarded}
use Rattle.secoc_gateway.specs.Relayed.{ServedArrival}
use Rattle.secoc_gateway.specs.Turns.{EventTurn}
use Rattle.secoc_gateway.proofs.Paired.{AreGood-same, good_routes, passes_config, step_of_pair}
use Rattle.secoc_gateway.specs.Gateway.{second_of, EventStep, GatewayStep}
use Rattle.secoc_gateway.proofs.gateway.Gateway.arrive.Goals as goal

pub pass_on-requires-clause-receives : goal.pass_on-requires-clause-receives
pass_on-requires-clause-receives g c =
    (good_routes c.self.inside.node.node c.self.inside.pairs.items c.args.id c.unwrap-second.result c.self.invariant
    (ap (λ (s : GatewayState). second_of s.pairs c.args.id) c.self.view_is ∙ sym c.second.ensures ∙ c.unwrap-second.ensures)).receives

pub pass_on-requires-clause-sends : goal.pass_on-requires-clause-sends
pass_on-requires-clause-sends g c =
    (good_routes c.self.inside.node.node c.self.inside.pairs.items c.args.id c.unwrap-second.result c.self.invariant
    (ap (λ (s : GatewayState). second_of s.pairs c.args.id) c.self.view_is ∙ sym c.second.ensures ∙ c.unwrap-second.ensures)).sends

pub invariant_of-self : goal.invariant_of-self
invariant_of-self g c =
    AreGood-same c.self.inside.node.node c.pass_on.new.node.node c.self.inside.pairs.items (passes_config _ _ _ _ _ (c.pass_on.ensures.step 0)) c.self.invariant

pub returns-clause-step : goal.returns-clause-step
returns-clause-step g c place told also =
    subst (λ (s : GatewayState). GatewayStep EventStep s.pairs s.node (Inject place c.args.id c.args.pdu.now) (arrival_line c.args.id told c.pass_on.new.out c.pass_on.result) c.pass_on.new.node.node) c.self.view_is
    (step_of_pair EventStep c.self.inside.pairs.items c.args.id c.unwrap-second.result told c.self.inside.node.node c.pass_on.new.node.node place c.args.pdu.now c.pass_on.new.out c.pass_on.result
    (ap (λ (s : GatewayState). second_of s.pairs c.args.id) c.self.view_is ∙ sym c.second.ensures ∙ c.unwrap-second.ensures)
    (ap (λ (s : GatewayState). second_of s.pairs c.args.id) c.self.view_is ∙ also) (c.pass_on.ensures.step place))

pub returns-clause-turn : goal.returns-clause-turn
returns-clause-turn g c place told also =
    subst (λ (s : GatewayState). GatewayStep EventTurn s.pairs (over s) (Inject place c.args.id c.args.pdu.now) (arrival_line c.args.id told c.pass_on.new.out c.pass_on.result) c.pass_on.new.node) c.self.view_is
    (step_of_pair EventTurn c.self.inside.pairs.items c.args.id c.unwrap-second.result told c.self.inside.node c.pass_on.new.node place c.args.pdu.now c.pass_on.new.out c.pass_on.result
    (ap (λ (s : GatewayState). second_of s.pairs c.args.id) c.self.view_is ∙ sym c.second.ensures ∙ c.unwrap-second.ensures)
    (ap (λ (s : GatewayState). second_of s.pairs c.args.id) c.self.view_is ∙ also) (c.pass_on.ensures.turn place))

pub returns-clause-serves : goal.returns-clause-serves
returns-clause-serves g c = subst (λ s. ServedArrival (over s) c.pass_on.new.node c.pass_on.result) c.self.view_is c.pass_on.ensures.serves

pub returns-clause-departure_covered : goal.returns-clause-departure_covered
returns-clause-departure_covered g c told also =
    subst (λ (second : ℕ). IfForwarded c.pass_on.result (λ sent. IsCovered c.pass_on.new.node second Sends sent.freshness))
    (same_some c.unwrap-second.result told (sym c.unwrap-second.ensures ∙ c.second.ensures ∙ also)) c.pass_on.ensures.departure_covered
