use Rattle.std.proofs.Common.{length, arith}
use Rattle.std.proofs.lemmas.Result.{err_from_is_err_and}
use Rattle.cell_store.specs.Layout.{twin_layout}
use Rattle.cell_store.specs.ReadOrder.{twin_reads, twin_reads_to}
use Rattle.cell_store.proofs.ReadingLaws.{header-leaves, header-finds, cell-leaves, cell-finds}
use Rattle.cell_store.proofs.MovingLaws.{payloads_none, payloads_more, payloads_stand}
use Rattle.cell_store.proofs.moving.read_twin.Goals as goal

pub returns-in_err-read_header-clause-leaves : goal.returns-in_err-read_header-clause-leaves
returns-in_err-read_header-clause-leaves g c =
    let p = err_from_is_err_and c.from_residual.result c.from_residual.ensures.1 in
    rw (p.1, p.2) (header-leaves (twin_layout c.args.version) (length c.args.cells.now) (twin_reads (length c.args.cells.now)) twin_reads_to _ _ _ (omega arith) c.in_err-read_header.ensures.fault)

pub returns-in_err-read_header-clause-finds : goal.returns-in_err-read_header-clause-finds
returns-in_err-read_header-clause-finds g c =
    let p = err_from_is_err_and c.from_residual.result c.from_residual.ensures.1 in
    rw (p.1, p.2) (header-finds (twin_layout c.args.version) (length c.args.cells.now) _ _ _ c.in_err-read_header.ensures.fault)

pub returns-in_err-cells-clause-leaves : goal.returns-in_err-cells-clause-leaves
returns-in_err-cells-clause-leaves g c =
    let p = err_from_is_err_and c.from_residual-in_err-cells.result c.from_residual-in_err-cells.ensures.1 in
    rw (p.1, p.2) (cell-leaves c.args.version (length c.args.cells.now) c.loop-i.i c.loop-i.invariant.held _ _ _ c.loop-i.invariant.so _ (omega arith) c.in_err-cells.ensures.fault)

pub returns-in_err-cells-clause-finds : goal.returns-in_err-cells-clause-finds
returns-in_err-cells-clause-finds g c =
    let p = err_from_is_err_and c.from_residual-in_err-cells.result c.from_residual-in_err-cells.ensures.1 in
    rw (p.1, p.2) (cell-finds c.args.version (length c.args.cells.now) c.loop-i.i c.loop-i.invariant.held _ _ _ c.loop-i.invariant.so _ (omega arith) c.in_err-cells.ensures.fault)

pub loop-i-init : goal.loop-i-init
loop-i-init g c = payloads_none c.args.version (length c.args.cells.now) c.args.cells.now _ _ c.in_ok-read_header.ensures.same c.in_ok-read_header.ensures.grows c.in_ok-read_header.ensures.head

pub loop-i-preserved : goal.loop-i-preserved
loop-i-preserved g c =
    payloads_more c.args.version (length c.args.cells.now) c.loop-i.i c.loop-i.cells _ _ _ c.loop-i.invariant c.in_ok-cells.field-0 c.in_ok-cells.ensures.same c.in_ok-cells.ensures.keeps (omega arith) (omega arith)

pub returns-clause-stands : goal.returns-clause-stands
returns-clause-stands g c t told =
    payloads_stand c.args.version (length c.args.cells.now) c.loop-i.i c.loop-i.cells _ _ c.loop-i.invariant (omega arith) (omega arith) c.requires.few t told
    (let sized = (g.met.D.Disk.is_disk c.args.disk.now).bytes_sized t told in omega (arith, sized, c.requires.room))
