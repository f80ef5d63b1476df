use Rattle.bus_rows.proofs.Refused.{restart}
use Rattle.bus_rows.proofs.breaches.a_restarted_sender_is_no_single_run.Goals as goal

pub returns : goal.returns
returns c = restart
