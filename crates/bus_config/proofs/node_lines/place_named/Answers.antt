use Rattle.std.proofs.Common.{◌≡◌, sym, ◌∙◌, rules, tests}
use Rattle.std.proofs.lemmas.Iterator.{YieldsList-from_slice}
use Rattle.std.proofs.lemmas.Iterator.Search.{position_from_yields_List}
use Rattle.bus_config.specs.Buses.{place_named}
use Rattle.bus_config.proofs.Again.{none_when}
use Rattle.bus_config.proofs.Named.{has_name, nowhere}
use Rattle.bus_config.proofs.node_lines.place_named.Goals as goal

-- src/nodes.rt
pub returns : goal.returns
returns c =
    let value : c.position.result ≡ place_named c.args.nodes.now c.args.name.now =
    position_from_yields_List (has_name c.args.name.now) _ _ c.position.result c.position.ensures.ran (YieldsList-from_slice c.args.nodes.now cc) (λ x b q k. search (rules, tests)) in
    record { value = value; nowhere = λ none. nowhere c.args.nodes.now c.args.name.now (sym value ∙ none_when c.position.result none) }
