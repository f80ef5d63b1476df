use Rattle.std.proofs.Common.{◌≡◌, ◌≤◌, length, take}
use Rattle.ledger_commands.specs.EntryTexts.{held_entries}
use Rattle.ledger_commands.proofs.texts.count_entries.Given as goal

abbrev pub invariant-loop-place : goal.invariant-loop-place
invariant-loop-place l = record {
  counted : l.count ≡ length (held_entries (take l.place l.ledger.campaign.entries));
  few : l.count ≤ l.place;
}
