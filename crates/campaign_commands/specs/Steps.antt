-- What the steps of the work say to one another
use Rattle.std.specs.Prelude.{◌≡◌, ◌⊎◌, ℕ, ◌<◌, ◌≤◌, Some, List, [], ◌∷◌, ◌++◌, length, All, Result, Ok, Err, Vec}
use Rattle.std.specs.Prelude.{codes}
use Rattle.std.specs.declared.alloc.Global.{Global}
use Rattle.text_lines.specs.Readings.{most_lines, Fault}
use Rattle.text_lines.specs.Texts.{line}
use Rattle.any_cells.specs.FaultTexts.{store_fault_text}
use Rattle.program_edge.specs.declared.input.InputFault.{InputFault}
use Rattle.program_edge.specs.Rows.{Row, row_of, input_row, memory_row}
use Rattle.program_edge.specs.Inputs.{IsUnread}
use Rattle.program_edge.specs.Endings.{Ending, EndsInRow}
use Rattle.text_lines.specs.LineRows.{line_row, NoLines}
use Rattle.run_driver.specs.declared.printing.Unwritten.{Unwritten}
use Rattle.cut_disk.specs.State.{DiskState}
use Rattle.cell_store.specs.declared.faults.StoreFault.TheVariants as store
use Rattle.key_campaign.specs.declared.commands.LedgerCommand.{LedgerCommand}
use Rattle.campaign_commands.specs.CommandForms.{campaign_of}
use Rattle.campaign_commands.specs.ScriptCommands.{IsScriptCommand}
use Rattle.campaign_commands.specs.declared.opening.NoLedgerCause.{NoLedgerCause}
use Rattle.campaign_commands.specs.declared.opening.NoLedgerCause.TheVariants.{Store}
use Rattle.campaign_commands.specs.Opening.{ledger_size, LacksLedger, LeftWithoutMemory}
use Rattle.campaign_commands.specs.Rows.{CampaignInputs, CampaignDisks, AreTwo, NoCommands, HasBadLine, HasCommands}
use Rattle.campaign_commands.specs.Rows.{OverFirst, campaign_usage, too_few_text, too_small_text, no_ledger_text}
use Rattle.campaign_commands.specs.Rows.{DoneCampaign}

-- ---- the script

-- such as a script has, at most 65,536 of them
pub record AreScriptCommands (commands : List LedgerCommand) : Type 0 where
  pub are : All IsScriptCommand commands
  pub few : length commands ≤ most_lines

-- the commands of a script, or why there are none
abbrev pub HasScriptCommands : List ℕ → Result (Vec LedgerCommand Global) Row → Type 0
HasScriptCommands text (Ok commands) = (campaign_of text ≡ Ok commands.items) × AreScriptCommands commands.items
HasScriptCommands text (Err row) = NoLines (campaign_of text) row

-- the rows that come before a disk is looked at
pub data ComesOfScript (i : CampaignInputs) : Row → Type 0 where
  not_two : ¬ AreTwo i.words → IsUnread i.script → ComesOfScript i (row_of 2 campaign_usage)
  no_script : (fault : InputFault) → NoCommands i fault → ComesOfScript i (input_row fault)
  script_refused : (fault : Fault) → HasBadLine i fault → ComesOfScript i (line_row fault)

-- how the first phase ends: in commands, or in a row that comes
abbrev pub PreparesCampaign : CampaignInputs → Result (Vec LedgerCommand Global) Row → Type 0
PreparesCampaign i (Ok commands) = HasCommands i commands.items × AreScriptCommands commands.items
PreparesCampaign i (Err row) = ComesOfScript i row

-- ---- the disk

-- the row of a disk without a ledger: too small, the text of the cause, or out of memory for the store, or for a text
-- with a number; the others are fixed, so that printing them takes no memory
abbrev pub IsNoLedgerRow : NoLedgerCause → Row → Type 0
IsNoLedgerRow (Store store.TooSmall) row = row ≡ row_of 9 too_small_text
IsNoLedgerRow (Store store.Memory) row = row ≡ memory_row
IsNoLedgerRow (Store store.DiskFailed) row =
    row ≡ row_of 10 (line (codes "store: " ++ store_fault_text store.DiskFailed))
IsNoLedgerRow (Store store.NotFormatted) row =
    row ≡ row_of 10 (line (codes "store: " ++ store_fault_text store.NotFormatted))
IsNoLedgerRow cause row =
    ((text : List ℕ) × (no_ledger_text cause ≡ Some text) × (row ≡ row_of 10 text)) ⊎ (row ≡ memory_row)

-- the rows that come if the ledger isn't opened, by what was known of the first disk
pub data ComesOfDisk (before after : DiskState) : Row → Type 0 where
  disk_too_small : before.size < ledger_size → after ≡ before → ComesOfDisk before after (row_of 9 too_small_text)
  disk_without : (cause : NoLedgerCause) (text : List ℕ) → no_ledger_text cause ≡ Some text
      → LacksLedger before after cause
      → ComesOfDisk before after (row_of 10 text)
  disk_unopened : LeftWithoutMemory before after → ComesOfDisk before after memory_row

-- how a campaign over the first disk ends: the ledger isn't opened, or the first commands are done
pub data DoesOnDisk (commands : List LedgerCommand) (before after : DiskState) (e : Ending) : Type 0 where
  not_opened : EndsInRow (ComesOfDisk before after) e → DoesOnDisk commands before after e
  first_done : (result : Result (Unit {0}) Unwritten) → DoneCampaign commands e result before after
      → DoesOnDisk commands before after e

-- there is a disk, and the first has the bytes that a ledger needs
pub record HasDisk (disks : List DiskState) : Type 0 where
  pub first : DiskState
  pub rest : List DiskState
  pub are : disks ≡ first ∷ rest
  pub room : ledger_size ≤ first.size

-- there is no disk, or the first has fewer bytes: the row that says which
pub data LacksDisk (disks : List DiskState) : Row → Type 0 where
  no_disk : disks ≡ [] → LacksDisk disks (row_of 9 too_few_text)
  small_disk : (first : DiskState) (rest : List DiskState) → disks ≡ first ∷ rest → first.size < ledger_size
      → LacksDisk disks (row_of 9 too_small_text)

-- how the second phase ends: a disk is missing or too small, and none was touched, or the campaign is over the first;
-- `same` is that every disk is as before
pub data DoesCampaign (same : Type 0) (commands : List LedgerCommand) (d : CampaignDisks) (e : Ending) : Type 0 where
  disk_wanting : same → d.after ≡ d.before → EndsInRow (LacksDisk d.before) e → DoesCampaign same commands d e
  on_first : HasDisk d.before → OverFirst d (λ before after. DoesOnDisk commands before after e)
      → DoesCampaign same commands d e
