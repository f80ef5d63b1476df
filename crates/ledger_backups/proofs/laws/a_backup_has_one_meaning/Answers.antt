use Rattle.ledger_backups.proofs.WholeLaws.{one_meaning}
use Rattle.ledger_backups.proofs.laws.a_backup_has_one_meaning.Goals as goal

pub returns : goal.returns
returns c = one_meaning
