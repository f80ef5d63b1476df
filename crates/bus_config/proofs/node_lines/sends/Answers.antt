use Rattle.std.proofs.Common.{◌≡◌, ◌∙◌, rules, tests}
use Rattle.std.specs.List.{list_any}
use Rattle.std.proofs.lemmas.Iterator.{YieldsList-from_slice}
use Rattle.std.proofs.lemmas.Iterator.Search.{any_from_yields_List}
use Rattle.bus_config.proofs.Sending.{sends_id, any_sends}
use Rattle.bus_config.proofs.node_lines.sends.Goals as goal

-- src/nodes.rt:25:1
pub returns : goal.returns
returns c =
    let routes = c.args.routes.now in
    let test : c.any.result ≡ list_any (sends_id c.args.id) routes = any_from_yields_List (sends_id c.args.id) _ _ c.any.result c.any.ensures.ran (YieldsList-from_slice routes cc) (λ x b q k. search (rules, tests)) in
    test ∙ any_sends routes c.args.id
