use Rattle.bus_world.proofs.OpenLaws.{not_opened_none}
use Rattle.bus_world.proofs.opening.open_node.Goals as goal

pub returns-in_default-clause-refused : goal.returns-in_default-clause-refused
returns-in_default-clause-refused g c = not_opened_none c.args.start c.args.kind c.args.version c.args.config.now (g.D.Disk.state c.args.disk)
