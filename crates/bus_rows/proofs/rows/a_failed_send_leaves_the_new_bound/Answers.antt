use Rattle.bus_rows.proofs.ShortRuns.{failed_send_new_run}
use Rattle.bus_rows.proofs.rows.a_failed_send_leaves_the_new_bound.Goals as goal

pub returns : goal.returns
returns c = failed_send_new_run
