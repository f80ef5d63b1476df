use Rattle.bus_rows.proofs.Refused.{undone}
use Rattle.bus_rows.proofs.breaches.an_undone_update_is_no_run_that_keeps_keys.Goals as goal

pub returns : goal.returns
returns c = undone
