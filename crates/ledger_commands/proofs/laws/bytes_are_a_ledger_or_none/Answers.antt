use Rattle.ledger_commands.proofs.BytesLaws.{holds_or_lacks}
use Rattle.ledger_commands.proofs.laws.bytes_are_a_ledger_or_none.Goals as goal

pub returns : goal.returns
returns c = holds_or_lacks
