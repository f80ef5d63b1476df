use Rattle.bus_rows.proofs.MoreRuns.{ordinary_run}
use Rattle.bus_rows.proofs.rows.an_ordinary_run.Goals as goal

pub returns : goal.returns
returns c = ordinary_run
