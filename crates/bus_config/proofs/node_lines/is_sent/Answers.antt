use Rattle.std.proofs.Common.{◌≡◌, Bool, ◌∙◌, rules, tests}
use Rattle.std.specs.Prelude.{◌==◌}
use Rattle.std.specs.List.{list_any}
use Rattle.std.proofs.lemmas.Iterator.{YieldsList-from_slice}
use Rattle.std.proofs.lemmas.Iterator.Search.{any_from_yields_List}
use Rattle.bus_config.specs.Buses.{ids_sent_by}
use Rattle.bus_config.specs.declared.node_lines.NodeLine.{NodeLine}
use Rattle.bus_config.proofs.Sending.{any_node}
use Rattle.bus_config.proofs.node_lines.is_sent.Goals as goal

-- src/nodes.rt:32:1
pub returns : goal.returns
returns c =
    let nodes = c.args.nodes.now in
    let sending : NodeLine → Bool = λ n. list_any (λ one. one == c.args.id) (ids_sent_by n.config.routes) in
    let test : c.any.result ≡ list_any sending nodes = any_from_yields_List sending _ _ c.any.result c.any.ensures.ran (YieldsList-from_slice nodes cc) (λ x b q k. search (rules, tests)) in
    test ∙ any_node nodes c.args.id
