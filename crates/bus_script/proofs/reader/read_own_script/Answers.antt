use Rattle.bus_script.proofs.EventValues.{own_from_gives}
use Rattle.bus_script.proofs.reader.read_own_script.Goals as goal

pub returns-clause-own : goal.returns-clause-own
returns-clause-own c =
    own_from_gives c.args.bus.now.nodes c.args.text.now c.read_kinds.result c.nodes-nodes.ensures.is_bus.are_nodes c.read_kinds.ensures.exact
