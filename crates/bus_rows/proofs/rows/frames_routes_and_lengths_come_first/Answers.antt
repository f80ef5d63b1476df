use Rattle.bus_rows.proofs.ShortRuns.{refused_early_run}
use Rattle.bus_rows.proofs.rows.frames_routes_and_lengths_come_first.Goals as goal

pub returns : goal.returns
returns c = refused_early_run
