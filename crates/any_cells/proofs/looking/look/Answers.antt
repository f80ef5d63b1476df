use Rattle.std.proofs.Common.{arith}
use Rattle.cell_store.proofs.CallerLemmas.{OnErr-from, failed_after, failed_more, reads_join}
use Rattle.any_cells.proofs.looking.look.Goals as goal

pub returns-in_err-high-clause-failed : goal.returns-in_err-high-clause-failed
returns-in_err-high-clause-failed g c = OnErr-from c.from_residual.result (failed_more 2 (omega arith) c.in_err-high.ensures.failed)

pub returns-in_err-low-clause-failed : goal.returns-in_err-low-clause-failed
returns-in_err-low-clause-failed g c = OnErr-from c.from_residual-in_err-low.result (failed_after c.in_ok-high.ensures.as_before c.in_err-low.ensures.failed)

pub returns-clause-as_before : goal.returns-clause-as_before
returns-clause-as_before g c = reads_join c.in_ok-high.ensures.as_before c.in_ok-low.ensures.as_before
