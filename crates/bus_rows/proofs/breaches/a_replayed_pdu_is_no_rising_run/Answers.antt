use Rattle.bus_rows.proofs.Refused.{replay}
use Rattle.bus_rows.proofs.breaches.a_replayed_pdu_is_no_rising_run.Goals as goal

pub returns : goal.returns
returns c = replay
