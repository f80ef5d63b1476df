use Rattle.bus_store_commands.proofs.MakePhases.{line_made}
use Rattle.bus_store_commands.proofs.make.made_line.Goals as goal

pub returns : goal.returns
returns c =
    line_made c.args.bus.now c.kind.result c.version.result c.cells_of-cells.result c.node_config.result.now _ _ c.new-text.ensures.items c.kind.ensures
    c.version.ensures c.cells_of-cells.ensures.cells c.node_config.ensures.config c.in_ok-push_store_line.ensures
