use Rattle.std.proofs.Common.{◌≡◌, ◌++◌, take}
use Rattle.ledger_commands.specs.EntryTexts.{open_lines}
use Rattle.ledger_commands.proofs.texts.push_open.Given as goal

abbrev pub invariant-loop-place : goal.invariant-loop-place
invariant-loop-place l = l.text.items ≡ l.initial.text.items ++ open_lines (take l.place l.ledger.campaign.entries)
