use Rattle.bus_rows.proofs.MoreRuns.{updates_run}
use Rattle.bus_rows.proofs.rows.updates_are_refused_in_their_order.Goals as goal

pub returns : goal.returns
returns c = updates_run
