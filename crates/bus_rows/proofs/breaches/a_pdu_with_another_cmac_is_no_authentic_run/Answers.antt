use Rattle.bus_rows.proofs.Refused.{other_cmac}
use Rattle.bus_rows.proofs.breaches.a_pdu_with_another_cmac_is_no_authentic_run.Goals as goal

pub returns : goal.returns
returns c = other_cmac
