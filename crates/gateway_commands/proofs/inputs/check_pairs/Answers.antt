use Rattle.std.proofs.Common.{◌≡◌, ◌+◌, length, ap, subst, arith}
use Rattle.freshness_routes.specs.Config.{Config}
use Rattle.secoc_gateway.specs.Pairs.{AreGood, IsLowestBad}
use Rattle.gateway_commands.specs.Texts.{nodes_text, pair_text}
use Rattle.gateway_commands.specs.Inputs.{other_number, bad_pair}
use Rattle.gateway_commands.proofs.Preparing.{gate_is}
use Rattle.gateway_commands.proofs.inputs.check_pairs.Goals as goal

pub returns-then-nodes-ne1 : goal.returns-then-nodes-ne1
returns-then-nodes-ne1 c =
    (nodes_text, other_number (λ one. omega (arith, c.if-nodes-ne1.true, one, ap length c.nodes-nodes.ensures.value)), c.fixed.ensures)

pub returns-in-None : goal.returns-in-None
returns-in-None c =
    let one : length c.args.bus.now.nodes ≡ 1 = omega (arith, c.if-nodes-ne1.false, ap length c.nodes-nodes.ensures.value) in
    let config_is = gate_is c.nodes-nodes.result.now c.args.bus.now.nodes c.index-nodes-0.result c.nodes-nodes.ensures.value one c.index-nodes-0.is in
    record { one = one; good = subst (λ (config : Config). AreGood config.routes c.args.pairs.now) config_is c.in-None.ensures.lowest }

pub returns-in-Some : goal.returns-in-Some
returns-in-Some c =
    let one : length c.args.bus.now.nodes ≡ 1 = omega (arith, c.if-nodes-ne1.false, ap length c.nodes-nodes.ensures.value) in
    let config_is = gate_is c.nodes-nodes.result.now c.args.bus.now.nodes c.index-nodes-0.result c.nodes-nodes.ensures.value one c.index-nodes-0.is in (
      pair_text (c.in-Some.place + 1),
      bad_pair c.in-Some.place one (subst (λ (config : Config). IsLowestBad config.routes c.args.pairs.now c.in-Some.place) config_is c.in-Some.ensures.lowest),
      c.pair_refusal.ensures,
    )
