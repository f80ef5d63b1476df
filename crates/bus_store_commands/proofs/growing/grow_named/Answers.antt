use Rattle.std.specs.Prelude.{Some, None}
use Rattle.bus_store_commands.proofs.GrowPhases.{over_opened, not_over}
use Rattle.bus_store_commands.proofs.growing.grow_named.Goals as goal

pub returns-in-Ok-clause-grows : goal.returns-in-Ok-clause-grows
returns-in-Ok-clause-grows g c = (
  Some (g.P.Opened.Disk.state c.in-Ok.opened),
  over_opened (g.P.DiskOpener.opens c.args.disk_opener.now) _ _ c.args.word.now c.args.wanted c.args.routes.now (g.P.Opened.Disk.state c.in-Ok.opened)
      (g.P.Opened.Disk.state c.grow_over-status.new.disk) _ c.in-Ok.ensures.disk c.in-Ok.ensures.tells c.in-Ok.ensures.noted c.grow_over-status.ensures,
)

pub returns-in-Err-clause-grows : goal.returns-in-Err-clause-grows
returns-in-Err-clause-grows g c = (
  None,
  record {
    row = c.no_memory-refusal.result;
    comes = not_over (g.P.DiskOpener.opens c.args.disk_opener.now) (g.P.DiskOpener.opened c.args.disk_opener.now) _ c.args.word.now c.args.wanted c.args.routes.now
        c.no_memory-refusal.result c.no_memory-refusal.ensures c.in-Err.ensures.unopened;
    told = c.tell_refusal.ensures;
  },
)
