use Rattle.bus_rows.proofs.WorkedRuns.{last_run}
use Rattle.bus_rows.proofs.rows.a_counter_ends.Goals as goal

pub returns : goal.returns
returns c = last_run
