use Rattle.std.proofs.Common.{length, arith}
use Rattle.cell_store.proofs.TwinSteps.{read-store, read-attached, whole-items}
use Rattle.cell_store.proofs.twin.read_into.Goals as goal

pub invariant_of-result : goal.invariant_of-result
invariant_of-result g c =
    let e = whole-items c.args.held.len c.read_store.new.held c.args.held.items (omega arith) (omega arith) in
    rw e (read-store c.args.version (g.D.Disk.state c.args.disk) (g.D.Disk.state c.read_store.new.disk) c.read_store.new.held (length c.args.reread.items) (length c.args.held.items) c.requires.few (omega arith) c.requires.same c.requires.room (rw c.deref_mut.ensures.value at c.in-Ok.ensures.same) c.in-Ok.ensures.keeps)

pub returns-in-Ok-clause-attached : goal.returns-in-Ok-clause-attached
returns-in-Ok-clause-attached g c =
    let e = whole-items c.args.held.len c.read_store.new.held c.args.held.items (omega arith) (omega arith) in
    rw e (read-attached c.args.version (g.D.Disk.state c.args.disk) (g.D.Disk.state c.read_store.new.disk) c.read_store.new.held (length c.args.reread.items) (length c.args.held.items) c.requires.few (omega arith) c.requires.same c.requires.room (rw c.deref_mut.ensures.value at c.in-Ok.ensures.same) c.in-Ok.ensures.keeps c.in-Ok.ensures.grows)
