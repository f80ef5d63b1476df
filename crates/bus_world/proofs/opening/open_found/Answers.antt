use Rattle.std.specs.Prelude.{◌≡◌, Some}
use Rattle.std.proofs.Common.{sym, subst}
use Rattle.cut_disk.specs.State.{Told}
use Rattle.any_cells.specs.declared.looking.Found.TheVariants.{Blank, Standing, Older, Foreign}
use Rattle.any_cells.specs.Looking.{IsFound}
use Rattle.bus_world.specs.declared.start.Start.TheVariants.{Attach}
use Rattle.bus_world.specs.TakingUp.{cells_in}
use Rattle.bus_world.specs.Starts.{Opened, NotOpened}
use Rattle.bus_world.proofs.OpenLaws.{ok_by, err_by}
use Rattle.bus_world.proofs.TakingLaws.{look_failed, foreign_refused, standing_opened, standing_refused, blank_opened, blank_refused, older_opened, older_refused, look_at}
use Rattle.bus_world.proofs.opening.open_found.Goals as goal

pub returns-in-Ok-Blank-clause-opened : goal.returns-in-Ok-Blank-clause-opened
returns-in-Ok-Blank-clause-opened g c =
    let before = g.D.Disk.state c.args.disk in
    let mid = g.D.Disk.state c.look.new.disk in
    let look = look_at c.args.kind c.args.version c.cells_of.result (cells_in c.args.config) before c.in-Ok-Blank.field-0 Blank c.in-Ok-Blank.field-0-is c.cells_of.ensures.cells
    c.in-Ok-Blank.ensures.found in
    ok_by _ _ c.open_new.result c.open_new.ensures.opened (blank_opened c.args.kind c.args.version c.args.config c.requires.0 before mid c.in-Ok-Blank.ensures.as_before look)

pub returns-in-Ok-Blank-clause-refused : goal.returns-in-Ok-Blank-clause-refused
returns-in-Ok-Blank-clause-refused g c =
    let before = g.D.Disk.state c.args.disk in
    let mid = g.D.Disk.state c.look.new.disk in
    let look = look_at c.args.kind c.args.version c.cells_of.result (cells_in c.args.config) before c.in-Ok-Blank.field-0 Blank c.in-Ok-Blank.field-0-is c.cells_of.ensures.cells
    c.in-Ok-Blank.ensures.found in
    err_by _ _ c.open_new.result c.open_new.ensures.refused
    (λ u o. blank_refused c.args.kind c.args.version c.args.config c.requires.0 before mid c.in-Ok-Blank.ensures.as_before look (g.D.Disk.state u.disk) u.fault o)

pub returns-in-Ok-Standing-clause-opened : goal.returns-in-Ok-Standing-clause-opened
returns-in-Ok-Standing-clause-opened g c =
    let before = g.D.Disk.state c.args.disk in
    let mid = g.D.Disk.state c.look.new.disk in
    let look = look_at c.args.kind c.args.version c.cells_of.result (cells_in c.args.config) before c.in-Ok-Standing.field-0 Standing c.in-Ok-Standing.field-0-is c.cells_of.ensures.cells
    c.in-Ok-Standing.ensures.found in
    ok_by _ _ c.attach.result c.attach.ensures.opened (standing_opened c.args.kind c.args.version c.args.config c.requires.0 before mid c.in-Ok-Standing.ensures.as_before look)

pub returns-in-Ok-Standing-clause-refused : goal.returns-in-Ok-Standing-clause-refused
returns-in-Ok-Standing-clause-refused g c =
    let before = g.D.Disk.state c.args.disk in
    let mid = g.D.Disk.state c.look.new.disk in
    let look = look_at c.args.kind c.args.version c.cells_of.result (cells_in c.args.config) before c.in-Ok-Standing.field-0 Standing c.in-Ok-Standing.field-0-is c.cells_of.ensures.cells
    c.in-Ok-Standing.ensures.found in
    err_by _ _ c.attach.result c.attach.ensures.refused
    (λ u a. standing_refused c.args.kind c.args.version c.args.config c.requires.0 before mid c.in-Ok-Standing.ensures.as_before look (g.D.Disk.state u.disk) u.fault a)

pub returns-in-Ok-Older-clause-opened : goal.returns-in-Ok-Older-clause-opened
returns-in-Ok-Older-clause-opened g c =
    let before = g.D.Disk.state c.args.disk in
    let mid = g.D.Disk.state c.look.new.disk in
    let two = c.in-Ok-Older.ensures.older c.in-Ok-Older.field-0-is in
    let look = look_at c.args.kind c.args.version c.cells_of.result (cells_in c.args.config) before c.in-Ok-Older.field-0 Older c.in-Ok-Older.field-0-is c.cells_of.ensures.cells
    c.in-Ok-Older.ensures.found in
    ok_by _ _ c.open_older.result c.open_older.ensures.opened
    (λ n m. subst (λ v. Opened Attach c.args.kind v c.args.config before n) (sym two)
    (older_opened c.args.kind c.args.config c.requires.0 before mid c.in-Ok-Older.ensures.as_before
    (subst (λ v. (t : Told) → before.told ≡ Some t → IsFound c.args.kind v (cells_in c.args.config) t.bytes Older) two look) n m))

pub returns-in-Ok-Older-clause-refused : goal.returns-in-Ok-Older-clause-refused
returns-in-Ok-Older-clause-refused g c =
    let before = g.D.Disk.state c.args.disk in
    let mid = g.D.Disk.state c.look.new.disk in
    let two = c.in-Ok-Older.ensures.older c.in-Ok-Older.field-0-is in
    let look = look_at c.args.kind c.args.version c.cells_of.result (cells_in c.args.config) before c.in-Ok-Older.field-0 Older c.in-Ok-Older.field-0-is c.cells_of.ensures.cells
    c.in-Ok-Older.ensures.found in
    err_by _ _ c.open_older.result c.open_older.ensures.refused
    (λ u m. subst (λ v. NotOpened Attach c.args.kind v c.args.config before (g.D.Disk.state u.disk) u.fault) (sym two)
    (older_refused c.args.kind c.args.config c.requires.0 before mid c.in-Ok-Older.ensures.as_before
    (subst (λ v. (t : Told) → before.told ≡ Some t → IsFound c.args.kind v (cells_in c.args.config) t.bytes Older) two look) (g.D.Disk.state u.disk) u.fault m))

pub returns-in-Ok-Foreign-clause-refused : goal.returns-in-Ok-Foreign-clause-refused
returns-in-Ok-Foreign-clause-refused g c =
    let before = g.D.Disk.state c.args.disk in
    let look = look_at c.args.kind c.args.version c.cells_of.result (cells_in c.args.config) before c.in-Ok-Foreign.field-0 Foreign c.in-Ok-Foreign.field-0-is c.cells_of.ensures.cells
    c.in-Ok-Foreign.ensures.found in
    foreign_refused c.args.kind c.args.version c.args.config c.requires.0 before (g.D.Disk.state c.look.new.disk) c.in-Ok-Foreign.ensures.as_before look

pub returns-in-Err-clause-refused : goal.returns-in-Err-clause-refused
returns-in-Err-clause-refused g c = look_failed c.args.kind c.args.version c.args.config (g.D.Disk.state c.args.disk) (g.D.Disk.state c.look.new.disk) c.in-Err.ensures.failed
