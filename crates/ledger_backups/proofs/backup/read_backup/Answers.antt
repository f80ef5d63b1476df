use Rattle.std.proofs.Common.{sym, subst, inl}
use Rattle.ledger_backups.specs.Backups.{LacksBackup, AddsWhole, not_whole}
use Rattle.ledger_backups.proofs.BackupValues.{whole_are}
use Rattle.ledger_backups.proofs.WholeLaws.{refused_lines}
use Rattle.ledger_backups.proofs.backup.read_backup.Goals as goal

pub returns-in-Err-clause-refused : goal.returns-in-Err-clause-refused
returns-in-Err-clause-refused c = refused_lines c.args.text.now c.in-Err.fault c.line_refusal.result c.in-Err.ensures.exact c.line_refusal.ensures

pub returns-in-Ok-true-clause-are : goal.returns-in-Ok-true-clause-are
returns-in-Ok-true-clause-are c =
    whole_are c.in-Ok.lines.items c.add_lines.new.entries.items
    (rw c.as_slice.ensures.value at (subst (AddsWhole c.as_slice.result.now c.add_lines.new.entries.items) c.in-Ok-true.field-0-test c.in-Ok-true.ensures))
    c.in-Ok.ensures.are

pub returns-in-Ok-false-clause-refused : goal.returns-in-Ok-false-clause-refused
returns-in-Ok-false-clause-refused c =
    inl (subst (LacksBackup c.args.text.now) (sym c.not_whole_refusal.ensures) (not_whole c.in-Ok.lines.items c.in-Ok.ensures.exact
    (rw c.as_slice.ensures.value at (subst (AddsWhole c.as_slice.result.now c.add_lines.new.entries.items) c.in-Ok-false.field-0-test c.in-Ok-false.ensures))))
