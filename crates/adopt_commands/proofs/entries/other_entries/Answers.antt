use Rattle.std.proofs.Common.{◌≡◌, ◌++◌, ◌≤◌, List, length, sym, ap, subst, ◌∙◌, arith}
use Rattle.std.specs.Prelude.{All}
use Rattle.key_campaign.specs.declared.entries.LedgerEntry.{LedgerEntry}
use Rattle.text_lines.specs.Readings.{most_lines}
use Rattle.key_campaign.specs.Entries.{IsEntry, place_count}
use Rattle.ledger_commands.specs.EntryTexts.{held_entries}
use Rattle.ledger_commands.specs.LedgerRows.{LacksLedgerFile, unread, unkept}
use Rattle.ledger_commands.proofs.CallerLemmas.{lacks_read}
use Rattle.ledger_backups.proofs.CallerLemmas.{held_are, held_few}
use Rattle.adopt_commands.proofs.entries.other_entries.Goals as goal

pub returns-in-Ok-add_entries-clause-are : goal.returns-in-Ok-add_entries-clause-are
returns-in-Ok-add_entries-clause-are g c =
    let entries = c.in-Ok-read_ledger.ledger.campaign.entries in
    let is : c.add_entries.new.entries.items ≡ held_entries entries =
    c.in-Ok-add_entries.ensures ∙ ap (λ (l : List LedgerEntry). l ++ held_entries entries) c.new-entries.ensures.items in
    subst (λ (l : List LedgerEntry). All IsEntry l) (sym is) (held_are entries c.in-Ok-read_ledger.ensures.read.are.are)

pub returns-in-Ok-add_entries-clause-few : goal.returns-in-Ok-add_entries-clause-few
unfolding place_count
returns-in-Ok-add_entries-clause-few g c =
    let entries = c.in-Ok-read_ledger.ledger.campaign.entries in
    let is : c.add_entries.new.entries.items ≡ held_entries entries =
    c.in-Ok-add_entries.ensures ∙ ap (λ (l : List LedgerEntry). l ++ held_entries entries) c.new-entries.ensures.items in
    let count = c.in-Ok-read_ledger.ensures.read.count in
    let few = held_few entries in
    subst (λ (l : List LedgerEntry). length l ≤ most_lines) (sym is) (omega (arith, few, count))

pub returns-in-Err-clause-refused : goal.returns-in-Err-clause-refused
returns-in-Err-clause-refused g c = subst (LacksLedgerFile _) (sym c.from.ensures) (unread c.in-Err.fault c.in-Err.ensures.refused)

pub returns-in-Err-read_ledger-clause-refused : goal.returns-in-Err-read_ledger-clause-refused
returns-in-Err-read_ledger-clause-refused g c =
    lacks_read _ c.in-Ok.bytes.items _ c.in-Ok.ensures.ok (rw c.as_slice.ensures.value at c.in-Err-read_ledger.ensures.refused)

pub returns-clause-refused : goal.returns-clause-refused
returns-clause-refused g c = subst (LacksLedgerFile _) (sym c.no_memory.ensures) (unkept c.in-Ok.bytes.items c.in-Ok.ensures.ok)
