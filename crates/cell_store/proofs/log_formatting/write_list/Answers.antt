-- One write a cell.
use Rattle.std.proofs.Common.{◌+◌, ◌*◌, ◌∙◌, sym, refl, length, arith}
use Rattle.cut_disk.proofs.CallerLemmas.{runs_then, runs_more}
use Rattle.cell_store.proofs.FormatLaws.{tears_sized}
use Rattle.cell_store.proofs.WroteLaws.{chunks-none, chunk-more, chunk-failed, length-front, front-more}
use Rattle.cell_store.proofs.log_formatting.write_list.Goals as goal

pub loop-cell-init : goal.loop-cell-init
loop-cell-init g c = chunks-none c.args.at (32 * length c.args.cells.now) (g.D.Disk.state c.args.disk.now)

pub returns-in_err-write-clause-runs : goal.returns-in_err-write-clause-runs
returns-in_err-write-clause-runs g c = runs_more _ (omega arith) (runs_then c.loop-cell.invariant.runs c.write.ensures.call)

pub returns-in_err-write-clause-loosens : goal.returns-in_err-write-clause-loosens
returns-in_err-write-clause-loosens g c =
    chunk-failed c.args.at (32 * length c.args.cells.now) (c.args.at + 32 * c.loop-cell.cell) c.loop-cell.cell _ _ _ _ c.loop-cell.invariant refl
    (length-front c.args.cells.now c.loop-cell.cell c.told-cells (let b = c.loop-cell-test.true in omega arith)) (let b = c.loop-cell-test.true in omega arith)
    (λ t h. let z = (g.met.D.Disk.is_disk c.args.disk.now).bytes_sized t h in omega arith)
    (λ t h. let d = g.met.D.Disk.is_disk c.loop-cell.disk in let z = d.bytes_sized t h in let l = d.loose_sized t h in let s = c.loop-cell.invariant.runs.size in (omega arith, l ∙ sym z))
    c.write.ensures.call (tears_sized (c.args.at + 32 * c.loop-cell.cell) _ 32 _ _ (c.told-cells c.loop-cell.cell c.loop-cell-test.true) c.in_err-write.ensures.torn)

pub loop-cell-preserved : goal.loop-cell-preserved
loop-cell-preserved g c =
    chunk-more c.args.at (32 * length c.args.cells.now) (c.args.at + 32 * c.loop-cell.cell) c.loop-cell.cell _ _ _ _ c.loop-cell.invariant refl
    (length-front c.args.cells.now c.loop-cell.cell c.told-cells (let b = c.loop-cell-test.true in omega arith)) (let b = c.loop-cell-test.true in omega arith)
    (λ t h. let z = (g.met.D.Disk.is_disk c.args.disk.now).bytes_sized t h in omega arith)
    (λ t h. let d = g.met.D.Disk.is_disk c.loop-cell.disk in let z = d.bytes_sized t h in let l = d.loose_sized t h in let s = c.loop-cell.invariant.runs.size in (omega arith, l ∙ sym z))
    c.write.ensures.call _ _ (c.told-cells c.loop-cell.cell c.loop-cell-test.true) (front-more c.args.cells.now c.loop-cell.cell _ c.loop-cell-test.true refl) c.in_ok-write.ensures.count c.in_ok-write.ensures.written
