use Rattle.std.proofs.Common.{arith}
use Rattle.cut_disk.proofs.CallerLemmas.{runs_more}
use Rattle.cell_store.proofs.logs.put_cell.Goals as goal

pub returns-then-bank-lt-PLACES-clause-runs : goal.returns-then-bank-lt-PLACES-clause-runs
returns-then-bank-lt-PLACES-clause-runs g c = runs_more 6 (omega arith) c.append.ensures.runs
