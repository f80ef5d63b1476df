use Rattle.bus_rows.proofs.ShortRuns.{receiver_restarted_run}
use Rattle.bus_rows.proofs.rows.a_receiver_starts_at_its_bound.Goals as goal

pub returns : goal.returns
returns c = receiver_restarted_run
