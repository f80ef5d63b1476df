use Rattle.bus_rows.proofs.WrongBoot.{booted_wrong_run}
use Rattle.bus_rows.proofs.rows.a_wrong_boot_opens_nothing.Goals as goal

pub returns : goal.returns
returns c = booted_wrong_run
