use Rattle.bus_store_commands.proofs.MakingStores.{new_made, new_unmade}
use Rattle.bus_store_commands.proofs.making.make_new.Goals as goal

pub returns-in-Ok-clause-made : goal.returns-in-Ok-clause-made
returns-in-Ok-clause-made g c =
    new_made c.args.kind c.args.version c.args.config.now (g.D.Disk.state c.args.disk) (g.D.Disk.state c.in-Ok.disk) _ c.first_cells-count.ensures.cells
    c.requires.config c.in-Ok.ensures.formatted c.requires.unused

pub returns-in-Err-clause-refused : goal.returns-in-Err-clause-refused
returns-in-Err-clause-refused g c =
    new_unmade c.args.kind c.args.version c.args.config.now _ (g.D.Disk.state c.args.disk) (g.D.Disk.state c.in-Err.refused.disk) _ c.in-Err.refused.fault
    c.first_cells-count.ensures.cells c.requires.config c.in-Err.ensures.refused c.requires.unused
