use Rattle.ledger_commands.proofs.BytesLaws.{one_holds}
use Rattle.ledger_commands.proofs.laws.bytes_stand_for_one_ledger.Goals as goal

pub returns : goal.returns
returns c = one_holds
