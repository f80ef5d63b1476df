use Rattle.std.proofs.Common.{◌≡◌, ◌∙◌, ◌+◌, get_or, length, subst, arith}
use Rattle.std.specs.Prelude.{◌==◌}
use Rattle.ledger_backups.specs.declared.reader.BackupLine.{BackupLine}
use Rattle.ledger_backups.proofs.WholeLaws.{ends_whole, both_tests, first_test, none_whole}
use Rattle.ledger_backups.proofs.backup.add_lines.Goals as goal

pub returns-then-number-lines : goal.returns-then-number-lines
returns-then-number-lines c =
    ends_whole c.args.lines.now c.loop-line.entries.items c.loop-line.line-index c.in-End.count c.loop-line-test.true c.loop-line.invariant
    (subst (λ (l : BackupLine). l ≡ get_or c.args.lines.now c.loop-line.line-index l) c.in-End.is c.line-item.is) (c.from.result == c.len-number.result)
    (both_tests c.in-End.count (length c.loop-line.entries.items) c.len-number.result c.from.result (length c.args.lines.now) (c.len-number.ensures ∙ c.loop-line.entries.ok.0) c.from.ensures c.if-number-lines.true)

pub returns-else-number-lines : goal.returns-else-number-lines
returns-else-number-lines c =
    ends_whole c.args.lines.now c.loop-line.entries.items c.loop-line.line-index c.in-End.count c.loop-line-test.true c.loop-line.invariant
    (subst (λ (l : BackupLine). l ≡ get_or c.args.lines.now c.loop-line.line-index l) c.in-End.is c.line-item.is)
    (c.len-number.result + 1 == length c.args.lines.now)
    (first_test c.in-End.count (length c.loop-line.entries.items) c.len-number.result (length c.args.lines.now) (c.len-number.ensures ∙ c.loop-line.entries.ok.0) c.if-number-lines.false)

pub returns : goal.returns
returns c =
    none_whole c.args.lines.now c.loop-line.entries.items c.loop-line.line-index (omega (arith, c.loop-line-test.false, c.loop-line.auto.line-index-end))
    c.loop-line.invariant
