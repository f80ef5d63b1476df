use Rattle.bus_rows.proofs.ShortRuns.{restarted_in_window_run}
use Rattle.bus_rows.proofs.rows.a_window_reaches_a_restarted_sender.Goals as goal

pub returns : goal.returns
returns c = restarted_in_window_run
