-- Which commands a script can have (own)
use Rattle.std.specs.Prelude.{◌≤◌}
use Rattle.key_campaign.specs.declared.commands.LedgerCommand.{LedgerCommand}
use Rattle.key_campaign.specs.declared.commands.LedgerCommand.TheVariants as command
use Rattle.key_campaign.specs.Entries.{IsUnit}

-- a request is for one unit, and a failure is armed from the next call on
abbrev pub IsScriptCommand : LedgerCommand → Type 0
IsScriptCommand (command.Issue i) = IsUnit i.uid
IsScriptCommand (command.Confirm k) = Unit {0}
IsScriptCommand (command.Show uid id) = Unit {0}
IsScriptCommand (command.Cut torn) = Unit {0}
IsScriptCommand (command.Stop calls) = 1 ≤ calls
IsScriptCommand (command.Fail calls) = 1 ≤ calls
