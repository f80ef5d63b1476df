use Rattle.std.proofs.Common.{◌+◌, length, ◌∙◌, arith}
use Rattle.std.proofs.lemmas.Result.{err_from_is_err_and}
use Rattle.cut_disk.proofs.CallerLemmas.{grows_then}
use Rattle.cell_store.specs.Layout.{log_layout}
use Rattle.cell_store.specs.ReadOrder.{log_reads, log_reads_to}
use Rattle.cell_store.proofs.ReadingLaws.{header-leaves, header-finds, reads_join, reads_more}
use Rattle.cell_store.proofs.LogReadingLaws.{counting-leaves, counting-finds}
use Rattle.cell_store.proofs.log_reading.read_log.Goals as goal

pub returns-in_err-read_header-clause-leaves : goal.returns-in_err-read_header-clause-leaves
returns-in_err-read_header-clause-leaves g c =
    let p = err_from_is_err_and c.from_residual.result c.from_residual.ensures.1 in
    rw (p.1, p.2) (header-leaves (log_layout c.args.version) (length c.args.cells.now) (log_reads (length c.args.cells.now)) (log_reads_to (length c.args.cells.now)) _ _ _ (omega arith) c.in_err-read_header.ensures.fault)

pub returns-in_err-read_header-clause-finds : goal.returns-in_err-read_header-clause-finds
returns-in_err-read_header-clause-finds g c =
    let p = err_from_is_err_and c.from_residual.result c.from_residual.ensures.1 in
    rw (p.1, p.2) (header-finds (log_layout c.args.version) (length c.args.cells.now) _ _ _ c.in_err-read_header.ensures.fault)

pub returns-in_err-bank-clause-leaves : goal.returns-in_err-bank-clause-leaves
returns-in_err-bank-clause-leaves g c =
    let p = err_from_is_err_and c.from_residual-in_err-bank.result c.from_residual-in_err-bank.ensures.1 in
    rw (p.1, p.2) (counting-leaves c.args.version (length c.args.cells.now) _ _ _ _ c.in_ok-read_header.ensures.same c.in_err-bank.ensures.fault)

pub returns-in_err-bank-clause-finds : goal.returns-in_err-bank-clause-finds
returns-in_err-bank-clause-finds g c =
    let p = err_from_is_err_and c.from_residual-in_err-bank.result c.from_residual-in_err-bank.ensures.1 in
    rw (p.1, p.2) (counting-finds c.args.version (length c.args.cells.now) _ _ _ _ c.in_ok-read_header.ensures.same c.in_ok-read_header.ensures.head c.in_err-bank.ensures.fault)

pub returns-clause-same : goal.returns-clause-same
returns-clause-same g c = reads_more (67 + length c.args.cells.now) (omega arith) (reads_join c.in_ok-read_header.ensures.same c.in_ok-bank.ensures.same)

pub returns-clause-grows : goal.returns-clause-grows
returns-clause-grows g c = grows_then c.in_ok-read_header.ensures.grows c.in_ok-bank.ensures.same.runs

pub returns-clause-keeps : goal.returns-clause-keeps
returns-clause-keeps g c t h = c.in_ok-bank.ensures.keeps t (c.in_ok-read_header.ensures.same.told ∙ h) (c.in_ok-read_header.ensures.head t h)
