use Rattle.cut_disk.proofs.CallerLemmas.{quiet_never_rose}
use Rattle.cut_disk.proofs.laws.a_quiet_disk_fails_no_call.Goals as goal

pub returns : goal.returns
returns c = λ marks most old new quiet nothing runs rose. quiet_never_rose quiet (runs.quiet nothing quiet) rose
