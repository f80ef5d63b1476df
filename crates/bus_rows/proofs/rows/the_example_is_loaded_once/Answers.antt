use Rattle.bus_rows.proofs.LoadRun.{load_run}
use Rattle.bus_rows.proofs.rows.the_example_is_loaded_once.Goals as goal

pub returns : goal.returns
returns c = load_run
