use Rattle.std.proofs.Common.{◌≡◌, ◌++◌, take}
use Rattle.ledger_commands.specs.EntryTexts.{entry_lines}
use Rattle.ledger_commands.proofs.texts.push_entries.Given as goal

abbrev pub invariant-loop-place : goal.invariant-loop-place
invariant-loop-place l = l.text.items ≡ l.initial.text.items ++ entry_lines (take l.place l.ledger.campaign.entries)
