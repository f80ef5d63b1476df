use Rattle.bus_rows.proofs.ShortRuns.{failed_key_old_run}
use Rattle.bus_rows.proofs.rows.a_failed_update_leaves_the_old_slot.Goals as goal

pub returns : goal.returns
returns c = failed_key_old_run
