use Rattle.std.proofs.Common.{subst}
use Rattle.any_cells.specs.Migrating.{MigratesDisk, LeavesUnmigrated}
use Rattle.bus_world.proofs.OpenLaws.{ok_by, err_by}
use Rattle.bus_world.proofs.MoveLaws.{moved_to, not_moved_attach, not_moved}
use Rattle.bus_world.proofs.opening.open_older.Goals as goal

pub returns-in-Ok-clause-opened : goal.returns-in-Ok-clause-opened
returns-in-Ok-clause-opened g c =
    let kind = c.args.kind in
    let before = g.D.Disk.state c.args.disk in
    let mid = g.D.Disk.state c.in-Ok.disk in
    let done = subst (λ n. MigratesDisk kind n before mid) c.cells_of.ensures.cells c.in-Ok.ensures.migrated in
    ok_by _ _ c.attach.result c.attach.ensures.opened
    (λ node a. moved_to kind c.args.config before mid done.runs done.faults done.migrated node done.grows a)

pub returns-in-Ok-clause-refused : goal.returns-in-Ok-clause-refused
returns-in-Ok-clause-refused g c =
    let kind = c.args.kind in
    let before = g.D.Disk.state c.args.disk in
    let mid = g.D.Disk.state c.in-Ok.disk in
    let done = subst (λ n. MigratesDisk kind n before mid) c.cells_of.ensures.cells c.in-Ok.ensures.migrated in
    err_by _ _ c.attach.result c.attach.ensures.refused
    (λ u a. not_moved_attach kind c.args.config before mid done.runs done.faults done.migrated (g.D.Disk.state u.disk) u.fault done.images done.besides a)

pub returns-in-Err-clause-refused : goal.returns-in-Err-clause-refused
returns-in-Err-clause-refused g c =
    let kind = c.args.kind in
    let before = g.D.Disk.state c.args.disk in
    let after = g.D.Disk.state c.in-Err.refused.disk in
    let left = subst (λ n. LeavesUnmigrated kind n before after c.in-Err.refused.fault) c.cells_of.ensures.cells c.in-Err.ensures.refused in
    rw c.open_fault.ensures
    (not_moved kind c.args.config before after c.in-Err.refused.fault c.requires.1 left.cause left.images left.besides)
