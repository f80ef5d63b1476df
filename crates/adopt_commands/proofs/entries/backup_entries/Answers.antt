use Rattle.std.proofs.Common.{sym, subst}
use Rattle.adopt_commands.specs.AdoptRows.{LacksBackupFile, backup_unread}
use Rattle.adopt_commands.proofs.GivenFiles.{of_text}
use Rattle.adopt_commands.proofs.entries.backup_entries.Goals as goal

pub returns-in-Ok-clause-refused : goal.returns-in-Ok-clause-refused
returns-in-Ok-clause-refused g c = of_text _ c.in-Ok.text.items c.read_backup.result c.in-Ok.ensures.ok (rw c.as_slice.ensures.value at c.read_backup.ensures.refused)

pub returns-in-Err-clause-refused : goal.returns-in-Err-clause-refused
returns-in-Err-clause-refused g c = subst (LacksBackupFile _) (sym c.from.ensures) (backup_unread c.in-Err.fault c.in-Err.ensures.refused)
