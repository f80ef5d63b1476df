use Rattle.secured_pdu.proofs.Deciding.{verdict_at}
use Rattle.secured_pdu.proofs.laws.a_verdict_holds.Goals as goal

pub returns : goal.returns
returns c = verdict_at
