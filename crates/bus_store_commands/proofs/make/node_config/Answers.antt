use Rattle.bus_store_commands.proofs.MakePhases.{one_config, one_is_config}
use Rattle.bus_store_commands.proofs.make.node_config.Goals as goal

pub returns-clause-config : goal.returns-clause-config
returns-clause-config c =
    one_config c.nodes-nodes.result.now c.args.bus.now.nodes c.index-nodes-0.result c.nodes-nodes.ensures.value c.requires c.index-nodes-0.is

pub returns-clause-good : goal.returns-clause-good
returns-clause-good c =
    one_is_config c.args.bus.now c.index-nodes-0.result.config c.nodes-nodes.ensures.is_bus
    (one_config c.nodes-nodes.result.now c.args.bus.now.nodes c.index-nodes-0.result c.nodes-nodes.ensures.value c.requires c.index-nodes-0.is)
