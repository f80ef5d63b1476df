use Rattle.bus_rows.proofs.WorkedRuns.{foreign_run}
use Rattle.bus_rows.proofs.rows.a_foreign_pdu_is_accepted.Goals as goal

pub returns : goal.returns
returns c = foreign_run
