use Rattle.std.proofs.Common.{sym, subst}
use Rattle.ledger_commands.specs.LedgerRows.{LacksLedgerFile, unread, unkept}
use Rattle.ledger_commands.proofs.FileLaws.{lacks_read}
use Rattle.ledger_commands.proofs.run.push_ledger.Goals as goal

pub returns-in-Err-clause-refused : goal.returns-in-Err-clause-refused
returns-in-Err-clause-refused g c = subst (LacksLedgerFile _) (sym c.from.ensures) (unread c.in-Err.fault c.in-Err.ensures.refused)

pub returns-in-Err-read_ledger-clause-refused : goal.returns-in-Err-read_ledger-clause-refused
returns-in-Err-read_ledger-clause-refused g c =
    lacks_read _ c.in-Ok.bytes.items _ c.in-Ok.ensures.ok (rw c.as_slice.ensures.value at c.in-Err-read_ledger.ensures.refused)

pub returns-clause-refused : goal.returns-clause-refused
returns-clause-refused g c = subst (LacksLedgerFile _) (sym c.no_memory.ensures) (unkept c.in-Ok.bytes.items c.in-Ok.ensures.ok)
