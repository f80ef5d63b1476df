use Rattle.bus_rows.proofs.ShortRuns.{past_the_window_run}
use Rattle.bus_rows.proofs.rows.a_window_ends_what_is_accepted.Goals as goal

pub returns : goal.returns
returns c = past_the_window_run
