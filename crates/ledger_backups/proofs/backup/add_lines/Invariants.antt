use Rattle.std.proofs.Common.{◌≡◌, map, take}
use Rattle.ledger_backups.specs.declared.reader.BackupLine.TheVariants.{Entry}
use Rattle.ledger_backups.proofs.backup.add_lines.Given as goal

abbrev pub invariant-loop-line : goal.invariant-loop-line
invariant-loop-line l = map Entry l.entries.items ≡ take l.line-index l.lines
