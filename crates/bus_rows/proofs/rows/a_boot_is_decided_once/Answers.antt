use Rattle.bus_rows.proofs.MoreRuns.{boot_decided_run}
use Rattle.bus_rows.proofs.rows.a_boot_is_decided_once.Goals as goal

pub returns : goal.returns
returns c = boot_decided_run
