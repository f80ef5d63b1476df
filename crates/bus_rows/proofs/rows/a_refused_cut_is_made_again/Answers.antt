use Rattle.bus_rows.proofs.WorkedRuns.{refused_cut_run}
use Rattle.bus_rows.proofs.rows.a_refused_cut_is_made_again.Goals as goal

pub returns : goal.returns
returns c = refused_cut_run
