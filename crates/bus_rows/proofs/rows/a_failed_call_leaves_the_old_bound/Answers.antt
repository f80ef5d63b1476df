use Rattle.bus_rows.proofs.WorkedRuns.{failed_old_run}
use Rattle.bus_rows.proofs.rows.a_failed_call_leaves_the_old_bound.Goals as goal

pub returns : goal.returns
returns c = failed_old_run
