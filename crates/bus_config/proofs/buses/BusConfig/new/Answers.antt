use Rattle.std.proofs.Common.{◌≡◌, ◌≢◌, ◌≤◌, All, AllPairs, IsTrue, length, [], ap, refl, sym, subst, ◌∙◌, arith, rules}
use Rattle.freshness_routes.specs.Config.{IsConfig}
use Rattle.bus_config.specs.Names.{is_name}
use Rattle.bus_config.specs.Buses.{IsNamedBus, ids_sent, sent_again, most_routes}
use Rattle.bus_config.proofs.Again.{differ_from_none, none_from_differ, none_when, some_when, some_not_none}
use Rattle.bus_config.proofs.buses.BusConfig.new.Goals as goal

pub returns-then-is_some : goal.returns-then-is_some
returns-then-is_some c is =
    let found = some_when c.sent_again.result (sym c.is_some.ensures ∙ c.if-is_some.true) in
    let asked : c.sent_again.result ≡ sent_again c.args.nodes.items = c.sent_again.ensures.value ∙ ap sent_again c.as_slice-listed.ensures.value in
    some_not_none found.0 (sym found.1 ∙ asked ∙ none_from_differ [] (ids_sent c.args.nodes.items) is.sent_once)

-- what was asked of the nodes makes them a bus
made : (c : goal.Else-is_some) → IsNamedBus (record { kind = c.args.kind; version = c.args.version; nodes = c.args.nodes.items })
made c =
    let nodes = c.args.nodes.items in
    let listed : c.as_slice-listed.result.now ≡ nodes = c.as_slice-listed.ensures.value in
    let names : All (λ n. IsTrue (is_name n.name)) nodes =
    subst (λ ns. All (λ n. IsTrue (is_name n.name)) ns) listed (c.have_own_names.ensures.named c.if-not-have_own_names.false) in
    let configs : All (λ n. IsConfig n.config) nodes =
    subst (λ ns. All (λ n. IsConfig n.config) ns) listed (c.have_few_routes.ensures.configs c.if-not-have_few_routes.false) in
    let asked : c.sent_again.result ≡ sent_again nodes = c.sent_again.ensures.value ∙ ap sent_again listed in
    let few : All (λ n. length n.config.routes ≤ most_routes c.args.version) c.as_slice-listed.result.now =
    subst (λ m. All (λ n. length n.config.routes ≤ m) c.as_slice-listed.result.now) c.most_routes.ensures (c.have_few_routes.ensures.few.0 c.if-not-have_few_routes.false) in
    record {
      least = search rules;
      most = search rules;
      are_nodes = λ k d inside. record { named = names k d inside; config = configs k d inside };
      own_names = subst (λ ns. AllPairs (λ m n. m.name ≢ n.name) ns) listed (c.have_own_names.ensures.own.0 c.if-not-have_own_names.false);
      few_routes = subst (λ ns. All (λ n. length n.config.routes ≤ most_routes c.args.version) ns) listed few;
      sent_once = differ_from_none [] (ids_sent nodes) (λ i j d before inside. absurd (omega (arith, inside)))
          (sym asked ∙ none_when c.sent_again.result (sym c.is_some.ensures ∙ c.if-is_some.false));
    }

pub invariant_of-result : goal.invariant_of-result
invariant_of-result c = made c

pub returns : goal.returns
returns c = (made c, refl)
