use Rattle.std.proofs.Common.{length, arith}
use Rattle.std.proofs.lemmas.Result.{err_from_is_err_and}
use Rattle.cell_store.specs.Layout.{twin_layout}
use Rattle.cell_store.specs.ReadOrder.{twin_reads, twin_reads_to}
use Rattle.cell_store.proofs.ReadingLaws.{header-leaves, header-finds, read-more, cell-leaves, cell-finds}
use Rattle.cell_store.proofs.reading.read_store.Goals as goal

pub returns-in_err-read_header-clause-leaves : goal.returns-in_err-read_header-clause-leaves
returns-in_err-read_header-clause-leaves g c =
    let p = err_from_is_err_and c.from_residual.result c.from_residual.ensures.1 in
    rw (p.1, p.2) (header-leaves (twin_layout c.args.version) (length c.args.held.now) (twin_reads (length c.args.held.now)) twin_reads_to _ _ _ (omega arith) c.in_err-read_header.ensures.fault)

pub returns-in_err-read_header-clause-finds : goal.returns-in_err-read_header-clause-finds
returns-in_err-read_header-clause-finds g c =
    let p = err_from_is_err_and c.from_residual.result c.from_residual.ensures.1 in
    rw (p.1, p.2) (header-finds (twin_layout c.args.version) (length c.args.held.now) _ _ _ c.in_err-read_header.ensures.fault)

pub returns-in_err-held-clause-leaves : goal.returns-in_err-held-clause-leaves
returns-in_err-held-clause-leaves g c =
    let p = err_from_is_err_and c.from_residual-in_err-held.result c.from_residual-in_err-held.ensures.1 in
    rw (p.1, p.2) (cell-leaves c.args.version (length c.args.held.now) c.loop-i.i c.loop-i.held _ _ _ c.loop-i.invariant _ (omega arith) c.in_err-held.ensures.fault)

pub returns-in_err-held-clause-finds : goal.returns-in_err-held-clause-finds
returns-in_err-held-clause-finds g c =
    let p = err_from_is_err_and c.from_residual-in_err-held.result c.from_residual-in_err-held.ensures.1 in
    rw (p.1, p.2) (cell-finds c.args.version (length c.args.held.now) c.loop-i.i c.loop-i.held _ _ _ c.loop-i.invariant _ (omega arith) c.in_err-held.ensures.fault)

pub loop-i-preserved : goal.loop-i-preserved
loop-i-preserved g c =
    read-more c.args.version (length c.args.held.now) c.loop-i.i c.loop-i.held _ _ _ c.loop-i.invariant _ c.in_ok-held.ensures.same c.in_ok-held.ensures.keeps (omega arith)
