use Rattle.bus_rows.proofs.WorkedRuns.{failed_new_run}
use Rattle.bus_rows.proofs.rows.a_failed_call_leaves_the_new_bound.Goals as goal

pub returns : goal.returns
returns c = failed_new_run
