use Rattle.std.proofs.Common.{◌+◌, length, refl, sym, subst}
use Rattle.bus_store_commands.specs.GrowRows.{GrowsOnDisk, no_text, not_grown}
use Rattle.bus_store_commands.proofs.GrowPhases.{text_shows}
use Rattle.bus_store_commands.proofs.growing.grown_text_over.Goals as goal

pub returns-in-Ok-grow_store-clause-done : goal.returns-in-Ok-grow_store-clause-done
returns-in-Ok-grow_store-clause-done g c =
    text_shows c.args.wanted c.args.routes.now (g.D.Disk.state c.args.disk.now) (g.D.Disk.state c.grow_store.new.disk) (14 + length c.args.routes.now) _ refl
    c.in-Ok.ensures c.in-Ok-grow_store.ensures.could c.in-Ok-grow_store.ensures.grown c.in-Ok-grow_store.ensures.faults

pub returns-in-Err-grow_store-clause-refused : goal.returns-in-Err-grow_store-clause-refused
returns-in-Err-grow_store-clause-refused g c =
    not_grown c.in-Err-grow_store.fault c.grow_refusal.result c.in-Err-grow_store.ensures.refused c.grow_refusal.ensures

pub returns-in-Err-clause-refused : goal.returns-in-Err-clause-refused
returns-in-Err-clause-refused g c =
    subst (GrowsOnDisk c.args.wanted c.args.routes.now (g.D.Disk.state c.args.disk.now) (g.D.Disk.state c.args.disk.now)) (sym c.no_memory.ensures) (no_text refl)
