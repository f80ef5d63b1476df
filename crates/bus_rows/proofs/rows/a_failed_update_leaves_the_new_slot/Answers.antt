use Rattle.bus_rows.proofs.ShortRuns.{failed_key_new_run}
use Rattle.bus_rows.proofs.rows.a_failed_update_leaves_the_new_slot.Goals as goal

pub returns : goal.returns
returns c = failed_key_new_run
