use Rattle.ledger_backups.proofs.BackupWritten.{backup_read}
use Rattle.ledger_backups.proofs.laws.a_backup_is_read_again.Goals as goal

pub returns : goal.returns
returns c = backup_read
