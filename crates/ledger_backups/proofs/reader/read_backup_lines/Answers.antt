use Rattle.ledger_backups.specs.Backups.{backup_lines_of}
use Rattle.ledger_backups.proofs.BackupValues.{are_from_gives, few_from_gives}
use Rattle.ledger_backups.proofs.reader.read_backup_lines.Goals as goal

pub returns-clause-are : goal.returns-clause-are
unfolding backup_lines_of
returns-clause-are c = are_from_gives c.args.text.now c.read_lines.result c.read_lines.ensures

pub returns-clause-few : goal.returns-clause-few
unfolding backup_lines_of
returns-clause-few c = few_from_gives c.args.text.now c.read_lines.result c.read_lines.ensures
