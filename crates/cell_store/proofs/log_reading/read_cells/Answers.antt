use Rattle.std.proofs.Common.{length, arith}
use Rattle.cell_store.proofs.ReadingLaws.{failed_more, failed_after}
use Rattle.cell_store.proofs.LogReadingLaws.{read-cells-more, read-cells-none}
use Rattle.cell_store.proofs.Results.{OnErr-from}
use Rattle.cell_store.proofs.log_reading.read_cells.Goals as goal

pub loop-i-init : goal.loop-i-init
loop-i-init g c = read-cells-none c.args.version (length c.args.cells.now) c.args.side c.args.cells.now (g.D.Disk.state c.args.disk.now)

pub read_bank_cell-requires-clause-room : goal.read_bank_cell-requires-clause-room
read_bank_cell-requires-clause-room g c = let e = c.loop-i.invariant.as_before.runs.size in omega arith

pub returns-in_err-cells-clause-failed : goal.returns-in_err-cells-clause-failed
returns-in_err-cells-clause-failed g c = OnErr-from c.from_residual.result (failed_more (length c.args.cells.now) (omega arith) (failed_after c.loop-i.invariant.as_before c.in_err-cells.ensures.failed))

pub loop-i-preserved : goal.loop-i-preserved
loop-i-preserved g c =
    read-cells-more c.args.version (length c.args.cells.now) c.args.side c.loop-i.i c.loop-i.cells _ _ _ c.loop-i.invariant c.in_ok-cells.field-0 c.in_ok-cells.ensures.same c.in_ok-cells.ensures.is (omega arith)
