-- The table of answers of a campaign: its rows, and when each comes (own)
use Rattle.std.specs.Prelude.{◌≡◌, ℕ, ◌<◌, ◌++◌, List, [], ◌∷◌, length, codes, Ok, Err, Option, Some, None, Result}
use Rattle.std.specs.Fmt.{decimal}
use Rattle.program_edge.specs.declared.input.InputFault.{InputFault}
use Rattle.text_lines.specs.Readings.{Fault}
use Rattle.text_lines.specs.Texts.{line}
use Rattle.program_edge.specs.Rows.{Row, row_of, input_row, memory_row}
use Rattle.program_edge.specs.Inputs.{Reading, IsUnread, ReadsWhole, Lacks, Offers}
use Rattle.program_edge.specs.Endings.{Ending, EndsInRow}
use Rattle.text_lines.specs.LineRows.{line_row}
use Rattle.run_driver.specs.declared.printing.Unwritten.{Unwritten}
use Rattle.run_driver.specs.Statuses.{unwritten_status}
use Rattle.cut_disk.specs.State.{DiskState}
use Rattle.cell_store.specs.declared.faults.StoreFault.TheVariants as store
use Rattle.any_cells.specs.FaultTexts.{store_fault_text}
use Rattle.key_campaign.specs.declared.commands.LedgerCommand.{LedgerCommand}
use Rattle.campaign_commands.specs.CommandForms.{campaign_of}
use Rattle.campaign_commands.specs.declared.opening.NoLedgerCause.{NoLedgerCause}
use Rattle.campaign_commands.specs.declared.opening.NoLedgerCause.TheVariants.{Store, BadEntry}
use Rattle.campaign_commands.specs.Opening.{ledger_size, LacksLedger, LeftWithoutMemory, TellsFirm}
use Rattle.campaign_commands.specs.Headline.{RanCampaign, Campaigned, LedgerDiskStays, ledger_seen}

-- ---- what goes in

-- the arguments, and what was known of the script's source before and after
pub record CampaignInputs : Type 0 where
  pub words : List (List ℕ)
  pub script : Reading

-- what was known of the disks before and after
pub record CampaignDisks : Type 0 where
  pub before : List DiskState
  pub after : List DiskState

-- the arguments are two
abbrev pub AreTwo : List (List ℕ) → Type 0
AreTwo words = length words ≡ 2

-- the arguments are two, and there is no script, for this cause
abbrev pub NoCommands : CampaignInputs → InputFault → Type 0
NoCommands i fault = AreTwo i.words × Lacks i.script fault

-- the arguments are two, the script was read whole, and this is its first fault
pub record HasBadLine (i : CampaignInputs) (fault : Fault) : Type 0 where
  pub two : AreTwo i.words
  pub text : List ℕ
  pub whole : ReadsWhole i.script text
  pub fault_is : campaign_of text ≡ Err fault

-- the arguments are two, the script was read whole, and has these commands
pub record HasCommands (i : CampaignInputs) (commands : List LedgerCommand) : Type 0 where
  pub two : AreTwo i.words
  pub text : List ℕ
  pub whole : ReadsWhole i.script text
  pub commands_are : campaign_of text ≡ Ok commands

-- the arguments are two, and the source, which didn't fail, tells a script with these commands
pub record OffersCommands (i : CampaignInputs) (commands : List LedgerCommand) : Type 0 where
  pub two : AreTwo i.words
  pub text : List ℕ
  pub offers : Offers i.script text
  pub commands_are : campaign_of text ≡ Ok commands

-- the same of its first fault
pub record OffersBadLine (i : CampaignInputs) (fault : Fault) : Type 0 where
  pub two : AreTwo i.words
  pub text : List ℕ
  pub offers : Offers i.script text
  pub fault_is : campaign_of text ≡ Err fault

-- ---- the disks

-- this holds of the first disk before and after, and all others are as they were
pub record OverFirst (d : CampaignDisks) (P : DiskState → DiskState → Type 0) : Type 0 where
  pub first : DiskState
  pub later : DiskState
  pub rest : List DiskState
  pub was : d.before ≡ first ∷ rest
  pub now : d.after ≡ later ∷ rest
  pub holds : P first later

-- ---- the rows

abbrev pub campaign_usage : List ℕ
campaign_usage = line (codes "usage: campaign F DISK")

abbrev pub too_few_text : List ℕ
too_few_text = line (codes "disks: too few")

abbrev pub too_small_text : List ℕ
too_small_text = line (codes "disks: too small")

-- the line of words that tells why there is no ledger; too small a disk and out of memory have none here
abbrev pub no_ledger_text : NoLedgerCause → Option (List ℕ)
no_ledger_text (Store store.TooSmall) = None
no_ledger_text (Store store.Memory) = None
no_ledger_text (Store fault) = Some (line (codes "store: " ++ store_fault_text fault))
no_ledger_text (BadEntry bad) = Some (line (codes "store: BadEntry " ++ decimal bad))

-- the rows that come before a command is done; `same` is that every disk is as before
pub data ComesBefore (same : Type 0) (i : CampaignInputs) (d : CampaignDisks) : Row → Type 0 where
  no_form : ¬ AreTwo i.words → IsUnread i.script → same → ComesBefore same i d (row_of 2 campaign_usage)
  no_commands : (fault : InputFault) → NoCommands i fault → same → ComesBefore same i d (input_row fault)
  bad_line : (fault : Fault) → HasBadLine i fault → same → ComesBefore same i d (line_row fault)
  too_few : (commands : List LedgerCommand) → HasCommands i commands → same → d.before ≡ []
      → ComesBefore same i d (row_of 9 too_few_text)
  too_small : (commands : List LedgerCommand) → HasCommands i commands → same
      → OverFirst d (λ before after. (before.size < ledger_size) × (after ≡ before))
      → ComesBefore same i d (row_of 9 too_small_text)
  no_ledger : (commands : List LedgerCommand) (cause : NoLedgerCause) (text : List ℕ) → HasCommands i commands
      → no_ledger_text cause ≡ Some text
      → OverFirst d (λ before after. LacksLedger before after cause) → ComesBefore same i d (row_of 10 text)
  no_memory_to_open : (commands : List LedgerCommand) → HasCommands i commands → OverFirst d LeftWithoutMemory
      → ComesBefore same i d memory_row

-- ---- a campaign

-- The first commands were done, up to the first whose text wasn't written, and the failures of the disk are told,
-- whether it tells its bytes or not. Over a disk that tells its bytes, none of them loose, they are one run of the
-- machine, and all of `Campaigned` holds of it.
pub record DoneCampaign (commands : List LedgerCommand) (e : Ending) (result : Result (Unit {0}) Unwritten)
    (before after : DiskState) : Type 0 where
  pub ran : RanCampaign before after commands e.before e.after result
  pub status_is : e.status ≡ unwritten_status result
  pub stay : LedgerDiskStays before after (ledger_seen ran.printed.moments)
  pub one_run : TellsFirm before → Campaigned before after commands e.before e.after result

-- how a campaign ends: in a row, which is printed; or the first commands were done
pub data EndsCampaign (same : Type 0) (i : CampaignInputs) (d : CampaignDisks) (e : Ending) : Type 0 where
  in_row : EndsInRow (ComesBefore same i d) e → EndsCampaign same i d e
  campaigned : (commands : List LedgerCommand) (result : Result (Unit {0}) Unwritten) → HasCommands i commands
      → OverFirst d (DoneCampaign commands e result) → EndsCampaign same i d e
