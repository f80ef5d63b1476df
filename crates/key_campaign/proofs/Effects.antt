-- What a step leaves of a ledger, whatever its command: the rows by what they do
use Rattle.std.specs.Prelude.{◌≡◌}
use Rattle.key_campaign.specs.declared.commands.LedgerCommand.{LedgerCommand}
use Rattle.key_campaign.specs.declared.commands.LedgerCommand.TheVariants as command
use Rattle.key_campaign.specs.declared.entries.PendingEntry.{PendingEntry}
use Rattle.key_campaign.specs.declared.lines.LedgerLine.{LedgerLine}
use Rattle.key_campaign.specs.declared.lines.LedgerLine.TheVariants as line
use Rattle.key_campaign.specs.declared.lines.LedgerRefusal.TheVariants as refusal
use Rattle.key_campaign.specs.Campaign.{Campaign, changed_ledger, failed_change, stays_off}
use Rattle.key_campaign.specs.Steps.{MakesEntry, PowersLedger, LedgerStep}

pub data LedgerEffect (c : Campaign) (cmd : LedgerCommand) (after : Campaign) : Type 0 where
  stays : after ≡ c → LedgerEffect c cmd after
  made : (change : PendingEntry) → MakesEntry c cmd change → after ≡ changed_ledger change c → LedgerEffect c cmd after
  failed : (change : PendingEntry) → MakesEntry c cmd change → after ≡ failed_change change c → LedgerEffect c cmd after
  powers : PowersLedger c after → LedgerEffect c cmd after
  off : after ≡ stays_off c → LedgerEffect c cmd after

pub effect_of : (c : Campaign) (cmd : LedgerCommand) (told : LedgerLine) (after : Campaign) → LedgerStep c cmd told after → LedgerEffect c cmd after
effect_of c (command.Issue i) (line.Issued counter request) after step = made step.change step.makes step.after_is
effect_of c (command.Issue i) (line.Refused refusal.MemoryFailure) after step = failed step.0 step.1 step.2
effect_of c (command.Issue i) (line.Refused why) after step = stays step.1
effect_of c (command.Confirm k) (line.Confirmed counter) after step = made step.change step.makes step.after_is
effect_of c (command.Confirm k) (line.Refused refusal.MemoryFailure) after step = failed step.0 step.1 step.2
effect_of c (command.Confirm k) (line.Refused why) after step = stays step.1
effect_of c (command.Show uid id) (line.Shown told) after step = stays step.1
effect_of c (command.Cut torn) line.Up after step = powers step
effect_of c (command.Cut torn) (line.Refused refusal.MemoryFailure) after step = off step
effect_of c (command.Stop calls) line.Armed after step = stays step
effect_of c (command.Fail calls) line.Armed after step = stays step
effect_of c _ _ after step = absurd step
