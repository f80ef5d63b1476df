use Rattle.bus_rows.proofs.WorkedRuns.{restarted_run}
use Rattle.bus_rows.proofs.rows.a_sender_starts_at_its_bound.Goals as goal

pub returns : goal.returns
returns c = restarted_run
