use Rattle.std.proofs.Common.{ap, ◌∙◌}
use Rattle.freshness_routes.specs.Config.{Config}
use Rattle.bus_programs.proofs.Finding.{first_config}
use Rattle.bus_programs.proofs.one_node.node_routes.Goals as goal

pub returns : goal.returns
returns c =
    c.routes_in.ensures ∙ ap (λ (config : Config). config.routes)
    (first_config c.nodes-nodes.result.now c.args.bus.now.nodes c.index-nodes-0.result c.nodes-nodes.ensures.value c.requires c.index-nodes-0.is)
