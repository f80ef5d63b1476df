use Rattle.std.proofs.Common.{refl}
use Rattle.bus_world.proofs.CallerLemmas.{same_known}
use Rattle.bus_commands.specs.StartRows.{disks_between}
use Rattle.bus_commands.specs.Rows.{without_disks, in_row}
use Rattle.bus_commands.proofs.Doing.{ends_lines, ends_world}
use Rattle.bus_commands.proofs.OneRun.{runs_bus}
use Rattle.bus_commands.proofs.run.run_asked.Goals as goal

pub do_lines-requires : goal.do_lines-requires
do_lines-requires g c =
    let prepared = rw c.in-Ok-Lines.field-0-is at (c.in-Ok-Lines.ensures c.requires.0 c.requires.1) in
    prepared.0

pub do_world-requires : goal.do_world-requires
do_world-requires g c =
    let prepared = rw c.in-Ok-World.field-0-is at (c.in-Ok-World.ensures c.requires.0 c.requires.1) in
    prepared.0

pub returns-in-Ok-Lines : goal.returns-in-Ok-Lines
returns-in-Ok-Lines g c words asks =
    runs_bus _ (disks_between g.D.Disk.state c.args.disks.now c.args.disks.now) _ (same_known g.D.Disk.state c.args.disks.now c.args.disks.now)
    (ends_lines _ _ _ c.in-Ok-Lines.job refl (rw c.in-Ok-Lines.field-0-is at (c.in-Ok-Lines.ensures words asks)) c.do_lines.ensures)

pub returns-in-Ok-World : goal.returns-in-Ok-World
returns-in-Ok-World g c words asks =
    runs_bus _ (disks_between g.D.Disk.state c.args.disks.now c.do_world.new.disks) _ (same_known g.D.Disk.state c.args.disks.now c.do_world.new.disks)
    (ends_world _ _ _ c.in-Ok-World.job (rw c.in-Ok-World.field-0-is at (c.in-Ok-World.ensures words asks)) c.do_world.ensures)

pub returns-in-Err : goal.returns-in-Err
returns-in-Err g c words asks =
    runs_bus _ (disks_between g.D.Disk.state c.args.disks.now c.args.disks.now) _ (same_known g.D.Disk.state c.args.disks.now c.args.disks.now)
    (in_row (record { row = c.in-Err.refusal; comes = without_disks c.in-Err.refusal (c.in-Err.ensures words asks) refl; told = c.tell_refusal.ensures }))
