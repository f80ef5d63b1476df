use Rattle.std.proofs.Common.{◌≡◌, ◌++◌, take}
use Rattle.ledger_commands.specs.EntryTexts.{held_entries}
use Rattle.adopt_commands.proofs.entries.add_entries.Given as goal

abbrev pub invariant-loop-place : goal.invariant-loop-place
invariant-loop-place l = l.entries.items ≡ l.initial.entries.items ++ held_entries (take l.place l.ledger.campaign.entries)
