use Rattle.std.proofs.lemmas.Result.{err_from_is_err_and}
use Rattle.cell_store.proofs.CallerLemmas.{reads_join, failed_after}
use Rattle.any_cells.proofs.CountingLaws.{not_probed}
use Rattle.any_cells.specs.Finding.{not_read}
use Rattle.any_cells.proofs.finding.find_store.Goals as goal

pub returns-in_err-low-clause-refused : goal.returns-in_err-low-clause-refused
returns-in_err-low-clause-refused g c =
    let p = err_from_is_err_and c.from_residual.result c.from_residual.ensures.1 in
    rw (p.1, p.2) (not_probed _ _ _ c.in_err-low.ensures.refused)

pub returns-in-Ok-clause-as_before : goal.returns-in-Ok-clause-as_before
returns-in-Ok-clause-as_before g c = reads_join c.in_ok-low.ensures.probed.as_before c.in-Ok.ensures.as_before

pub returns-in-Err-clause-refused : goal.returns-in-Err-clause-refused
returns-in-Err-clause-refused g c = not_read (failed_after c.in_ok-low.ensures.probed.as_before c.in-Err.ensures.failed)
