use Rattle.bus_world.proofs.OpenLaws.{formatted, not_formatted, opened_over, not_opened_attach, ok_by, err_by}
use Rattle.bus_world.proofs.opening.open_new.Goals as goal

pub returns-in-Ok-clause-opened : goal.returns-in-Ok-clause-opened
returns-in-Ok-clause-opened g c =
    let before = g.D.Disk.state c.args.disk in
    let mid = g.D.Disk.state c.in-Ok.disk in
    let is = formatted c.args.kind c.args.version c.args.config before mid _ c.requires.0 c.first_cells-count.ensures.cells c.in-Ok.ensures.formatted in
    ok_by _ _ c.attach.result c.attach.ensures.opened (λ n a. opened_over c.args.kind c.args.version c.args.config before mid n c.requires.0 is a)

pub returns-in-Ok-clause-refused : goal.returns-in-Ok-clause-refused
returns-in-Ok-clause-refused g c =
    let before = g.D.Disk.state c.args.disk in
    let mid = g.D.Disk.state c.in-Ok.disk in
    let is = formatted c.args.kind c.args.version c.args.config before mid _ c.requires.0 c.first_cells-count.ensures.cells c.in-Ok.ensures.formatted in
    err_by _ _ c.attach.result c.attach.ensures.refused
    (λ u a. not_opened_attach c.args.kind c.args.version c.args.config before mid (g.D.Disk.state u.disk) u.fault c.requires.0 is a)

pub returns-in-Err-clause-refused : goal.returns-in-Err-clause-refused
returns-in-Err-clause-refused g c =
    rw c.open_fault.ensures
    (not_formatted c.args.kind c.args.version c.args.config (g.D.Disk.state c.args.disk) (g.D.Disk.state c.in-Err.refused.disk) c.in-Err.refused.fault _ c.requires.0
    c.first_cells-count.ensures.cells c.requires.1 c.in-Err.ensures.refused)
