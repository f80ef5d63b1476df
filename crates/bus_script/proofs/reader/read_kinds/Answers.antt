use Rattle.bus_script.specs.EventForms.{events_among}
use Rattle.bus_script.proofs.EventValues.{values_from_gives, few_from_gives}
use Rattle.bus_script.proofs.reader.read_kinds.Goals as goal

pub returns-clause-are_events : goal.returns-clause-are_events
unfolding events_among
returns-clause-are_events c =
    values_from_gives c.args.kinds.now c.args.bus.now.nodes c.args.text.now c.read_lines.result c.nodes-nodes.ensures.is_bus.are_nodes c.read_lines.ensures

pub returns-clause-few : goal.returns-clause-few
unfolding events_among
returns-clause-few c = few_from_gives c.args.kinds.now c.args.bus.now.nodes c.args.text.now c.read_lines.result c.read_lines.ensures
