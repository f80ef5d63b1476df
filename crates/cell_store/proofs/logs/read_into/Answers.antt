use Rattle.std.proofs.Common.{length, arith}
use Rattle.cell_store.proofs.TwinSteps.{whole-items}
use Rattle.cell_store.proofs.LogSteps.{log-read-store, log-read-attached, log-refused}
use Rattle.cell_store.proofs.logs.read_into.Goals as goal

pub invariant_of-result : goal.invariant_of-result
invariant_of-result g c =
    let e = whole-items c.args.cells.len c.read_log.new.cells c.args.cells.items (omega arith) (omega arith) in
    rw e (log-read-store c.args.version (g.D.Disk.state c.args.disk) (g.D.Disk.state c.read_log.new.disk) c.read_log.new.cells (length c.args.reread.items) (length c.args.space.items) (length c.args.cells.items) c.in-Ok.bank c.requires.few (omega arith) c.requires.same c.requires.space c.requires.room (rw c.deref_mut.ensures.value at c.in-Ok.ensures.same) (rw c.deref_mut.ensures.value at c.in-Ok.ensures.keeps))

pub returns-in-Ok-clause-attached : goal.returns-in-Ok-clause-attached
returns-in-Ok-clause-attached g c =
    let e = whole-items c.args.cells.len c.read_log.new.cells c.args.cells.items (omega arith) (omega arith) in
    rw e (log-read-attached c.args.version (g.D.Disk.state c.args.disk) (g.D.Disk.state c.read_log.new.disk) c.read_log.new.cells (length c.args.reread.items) (length c.args.space.items) (length c.args.cells.items) c.in-Ok.bank c.requires.few (omega arith) c.requires.same c.requires.space c.requires.room (rw c.deref_mut.ensures.value at c.in-Ok.ensures.same) (rw c.deref_mut.ensures.value at c.in-Ok.ensures.keeps) c.in-Ok.ensures.grows)

pub returns-in-Err-clause-refused : goal.returns-in-Err-clause-refused
returns-in-Err-clause-refused g c =
    rw c.from.ensures (log-refused c.args.version (length c.args.cells.items) _ _ c.in-Err.fault c.requires.room (rw c.deref_mut.ensures.value at c.in-Err.ensures.leaves) (rw c.deref_mut.ensures.value at c.in-Err.ensures.finds))
