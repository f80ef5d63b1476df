use Rattle.std.proofs.Common.{◌≡◌, ◌+◌, length, ◌∙◌, arith, length-drop}
use Rattle.std.proofs.lemmas.Result.{err_from_is_err_and}
use Rattle.cell_store.specs.Layout.{base}
use Rattle.cell_store.proofs.ReadingLaws.{failed_more, failed_after, reads_join, reads_more}
use Rattle.cell_store.proofs.LogReadingLaws.{bank-fault-is, places-fault-is, counting-keeps}
use Rattle.cell_store.proofs.log_reading.read_counting.Goals as goal

pub returns-in_err-bank-clause-fault : goal.returns-in_err-bank-clause-fault
returns-in_err-bank-clause-fault g c =
    let p = err_from_is_err_and c.from_residual.result c.from_residual.ensures.1 in
    rw (p.1, p.2) (bank-fault-is c.args.version (length c.args.cells.now) _ _ _ c.in_err-bank.ensures.fault)

pub returns-in_err-read_cells-clause-fault : goal.returns-in_err-read_cells-clause-fault
returns-in_err-read_cells-clause-fault g c =
    let p = err_from_is_err_and c.from_residual-in_err-read_cells.result c.from_residual-in_err-read_cells.ensures.1 in
    rw (p.1, p.2) (failed_more (66 + length c.args.cells.now) (omega arith) (failed_after c.in_ok-bank.ensures.same c.in_err-read_cells.ensures.failed))

pub returns-clause-same : goal.returns-clause-same
returns-clause-same g c = reads_more (66 + length c.args.cells.now) (omega arith) (reads_join (reads_join c.in_ok-bank.ensures.same c.in_ok-read_cells.ensures.same) c.in_ok-used.ensures.same)

pub returns-in_err-used-clause-fault : goal.returns-in_err-used-clause-fault
returns-in_err-used-clause-fault g c =
    let p = err_from_is_err_and c.from_residual-in_err-used.result c.from_residual-in_err-used.ensures.1 in
    let n : length c.read_cells.new.cells ≡ length c.args.cells.now = omega arith in
    rw (p.1, p.2) (places-fault-is c.args.version (length c.args.cells.now) _ _ _ _ (reads_join c.in_ok-bank.ensures.same c.in_ok-read_cells.ensures.same) (rw n at c.in_err-used.ensures.fault))

pub returns-clause-keeps : goal.returns-clause-keeps
returns-clause-keeps g c t h head =
    let z = (g.met.D.Disk.is_disk c.args.disk.now).bytes_sized t h in
    let d = length-drop (base c.args.version) t.bytes in
    let n : length c.read_cells.new.cells ≡ length c.args.cells.now = omega arith in
    let told = c.in_ok-read_cells.ensures.same.told ∙ (c.in_ok-bank.ensures.same.told ∙ h) in
    counting-keeps c.args.version (length c.args.cells.now) t.bytes c.read_places.new.cells c.in_ok-bank.bank c.in_ok-used.used (omega arith) (omega arith) (c.in_ok-bank.ensures.is t h) (rw n at (c.in_ok-used.ensures.is t told)) head
