use Rattle.bus_rows.proofs.Refused.{returned}
use Rattle.bus_rows.proofs.breaches.an_update_that_returns_is_no_settled_run.Goals as goal

pub returns : goal.returns
returns c = returned
