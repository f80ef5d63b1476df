use Rattle.bus_rows.proofs.MixedRun.{mixed_run}
use Rattle.bus_rows.proofs.rows.the_four_hold_of_a_mixed_run.Goals as goal

pub returns : goal.returns
returns c = mixed_run
