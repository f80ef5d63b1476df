use Rattle.bus_rows.proofs.ShortRuns.{too_far_ahead_run}
use Rattle.bus_rows.proofs.rows.a_shorter_window_does_not.Goals as goal

pub returns : goal.returns
returns c = too_far_ahead_run
