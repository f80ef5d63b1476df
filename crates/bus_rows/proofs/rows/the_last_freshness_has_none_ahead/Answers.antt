use Rattle.bus_rows.proofs.ShortRuns.{none_ahead_run}
use Rattle.bus_rows.proofs.rows.the_last_freshness_has_none_ahead.Goals as goal

pub returns : goal.returns
returns c = none_ahead_run
