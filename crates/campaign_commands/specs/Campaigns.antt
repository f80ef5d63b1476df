-- What a campaign promises (own)
use Rattle.std.specs.Prelude.{◌≡◌, ◌⊎◌, ℕ, ◌<◌, ◌≤◌, List, [], drop, length, Some, Result, Ok, Err, codes}
use Rattle.program_edge.specs.declared.input.InputFault.TheVariants.{ReadFault, TooLong}
use Rattle.cut_disk.specs.State.{DiskState, Told}
use Rattle.cut_disk.specs.Calls.{Rose, IsQuiet}
use Rattle.cell_store.specs.declared.faults.StoreFault.TheVariants as store
use Rattle.text_lines.specs.Readings.{Fault}
use Rattle.text_lines.specs.Texts.{fault_text_of}
use Rattle.program_edge.specs.Rows.{memory_row}
use Rattle.program_edge.specs.Inputs.{IsUnread, CountsFault, CountsTooMuch}
use Rattle.program_edge.specs.Endings.{Ending, EndsIn, MayEndIn, PrintsWhole, PrintsFront, SinkFailed, CountsWriteFault}
use Rattle.run_driver.specs.declared.printing.Unwritten.{Unwritten}
use Rattle.run_driver.specs.declared.printing.Unwritten.TheVariants as unwritten
use Rattle.key_campaign.specs.declared.commands.LedgerCommand.{LedgerCommand}
use Rattle.campaign_commands.specs.declared.opening.NoLedgerCause.{NoLedgerCause}
use Rattle.campaign_commands.specs.declared.opening.NoLedgerCause.TheVariants.{Store}
use Rattle.campaign_commands.specs.Opening.{ledger_size, IsNoLedger, LeavesRead, LeavesNone, HasLedger}
use Rattle.campaign_commands.specs.Rows.{CampaignInputs, CampaignDisks, AreTwo, NoCommands, HasBadLine, HasCommands}
use Rattle.campaign_commands.specs.Rows.{OffersCommands, OffersBadLine, OverFirst}
use Rattle.campaign_commands.specs.Rows.{campaign_usage, too_few_text, too_small_text, no_ledger_text, ComesBefore}
use Rattle.campaign_commands.specs.Rows.{DoneCampaign}

-- ---- the disk

-- why there is no ledger: the disk wasn't quiet, and its count rose; or no call failed, and the bytes that it tells are
-- no ledger's
abbrev pub NoLedgerBecause : NoLedgerCause → DiskState → DiskState → Type 0
NoLedgerBecause (Store store.DiskFailed) before after = (¬ IsQuiet before) × Rose before.faults after.faults
NoLedgerBecause cause before after =
    (after.faults ≡ before.faults) × ((t : Told) → before.told ≡ Some t → IsNoLedger t.bytes cause)

-- this text tells why there is no ledger, and the disk was only read, or its count rose
pub record RefusesDisk (e : Ending) (before after : DiskState) : Type 0 where
  pub cause : NoLedgerCause
  pub text : List ℕ
  pub text_is : no_ledger_text cause ≡ Some text
  pub printed : PrintsWhole e text
  pub because : NoLedgerBecause cause before after
  pub leaves : LeavesRead before after

-- its count didn't rise
abbrev pub CountsNone : DiskState → DiskState → Type 0
CountsNone before after = ¬ Rose before.faults after.faults

-- there is room, no call failed, and the disk tells bytes that are no ledger's, for this cause
pub record TellsNoLedger (cause : NoLedgerCause) (before after : DiskState) : Type 0 where
  pub room : ledger_size ≤ before.size
  pub calm : CountsNone before after
  pub now : Told
  pub told : before.told ≡ Some now
  pub none : IsNoLedger now.bytes cause

-- the disk has a ledger, or room for one, and was quiet, or its count didn't rise
abbrev pub ServesLedger : DiskState → DiskState → Type 0
ServesLedger before after = HasLedger before × (IsQuiet before ⊎ CountsNone before after)

-- ---- how it ends

-- the first commands of the script were done, up to the first whose text wasn't written, for this cause; over a disk of
-- any kind each is a turn of the ledger (`LedgerTurn`)
abbrev pub RanTo : CampaignInputs → CampaignDisks → Ending → Result (Unit {0}) Unwritten → Type 0
RanTo i d e result =
    (commands : List LedgerCommand) × HasCommands i commands × OverFirst d (DoneCampaign commands e result)

-- no command was done: every disk is as before, or the first one is except for reads, or it stands for no entries, or
-- its count rose
abbrev pub DoneNone : Type 0 → CampaignDisks → Type 0
DoneNone same d = same ⊎ OverFirst d LeavesNone

-- what a campaign promises that has these inputs and disks and ends so, in the order of the table of answers; `same` is
-- that every disk is as before
pub record RunsCampaign (same : Type 0) (i : CampaignInputs) (d : CampaignDisks) (e : Ending) : Type 0 where
  -- All disks but the first are as before at every status, and the first is at 2, 4, 5, 8 and 9.
  pub further : drop 1 d.after ≡ drop 1 d.before
  -- No disk is lost: what is asked below of the first disk before and after it can be asked wherever there is one.
  pub as_many : length d.after ≡ length d.before
  pub disks_unused : (e.status ≡ 2) ⊎ (e.status ≡ 4) ⊎ (e.status ≡ 5) ⊎ (e.status ≡ 8) ⊎ (e.status ≡ 9) → same
  -- 0: the script was read whole, its commands were done, and exactly their lines were printed.
  pub done : e.status ≡ 0 → RanTo i d e (Ok tt)
  -- 2: exactly if the arguments aren't two; nothing was read.
  pub usage_told : e.status ≡ 2 → (¬ AreTwo i.words) × IsUnread i.script × PrintsWhole e campaign_usage
  pub usage_only : ¬ AreTwo i.words → EndsIn 2 e
  -- 4: the script was read whole, and its first fault is printed.
  pub refused : e.status ≡ 4 → (fault : Fault) × HasBadLine i fault × PrintsWhole e (fault_text_of fault)
  pub refused_only : (fault : Fault) → OffersBadLine i fault → MayEndIn 4 e
  -- 5: exactly if the count of faults of the script's source rose.
  pub read_fault : e.status ≡ 5 → NoCommands i ReadFault × PrintsWhole e (codes "read fault\n")
  pub read_fault_only : CountsFault i.script → EndsIn 5 e
  -- 6: exactly if the sink's count of faults rose. A prefix was written of a row that comes; or the texts of the lines
  -- before one, and a prefix of this.
  pub write_fault : e.status ≡ 6 → SinkFailed e
      × (PrintsFront (ComesBefore same i d) e ⊎ RanTo i d e (Err unwritten.SinkFailed))
  pub write_fault_only : CountsWriteFault e → e.status ≡ 6
  -- 7: out of memory comes, and nothing was written: never of a disk that failed as it was opened; or the texts of the
  -- lines before one.
  pub no_memory : e.status ≡ 7
      → (ComesBefore same i d memory_row × PrintsWhole e []) ⊎ RanTo i d e (Err unwritten.Memory)
  -- 6 and 7: the record holds of some first commands; or none was done, and nothing was written, or a prefix of a row.
  pub early_ends : (e.status ≡ 6) ⊎ (e.status ≡ 7) → ((cause : Unwritten) × RanTo i d e (Err cause))
      ⊎ ((PrintsFront (ComesBefore same i d) e ⊎ PrintsWhole e []) × DoneNone same d)
  -- 8: exactly if one byte more than an input may have came from the source.
  pub too_long : e.status ≡ 8 → NoCommands i TooLong × PrintsWhole e (codes "input too long\n")
  pub too_long_only : CountsTooMuch i.script → EndsIn 8 e
  -- 9: exactly if there is no disk, or fewer bytes than a ledger needs.
  pub disks_refused : e.status ≡ 9 → (commands : List LedgerCommand) × HasCommands i commands
      × (((d.before ≡ []) × PrintsWhole e too_few_text)
      ⊎ (OverFirst d (λ before after. before.size < ledger_size) × PrintsWhole e too_small_text))
  pub disks_refused_only : (commands : List LedgerCommand) → OffersCommands i commands
      → (d.before ≡ []) ⊎ OverFirst d (λ before after. before.size < ledger_size) → MayEndIn 9 e
  -- 10: the disk failed, and wasn't quiet; or what it tells is no ledger's, and exactly then.
  pub store_refused : e.status ≡ 10
      → (commands : List LedgerCommand) × HasCommands i commands × OverFirst d (RefusesDisk e)
  pub store_refused_only : (commands : List LedgerCommand) (cause : NoLedgerCause) → OffersCommands i commands
      → OverFirst d (TellsNoLedger cause) → MayEndIn 10 e
  -- What is valid is done, if no port failed and there was memory.
  pub complete : (commands : List LedgerCommand) → OffersCommands i commands → OverFirst d ServesLedger → ¬ SinkFailed e
      → (e.status ≡ 0) ⊎ (e.status ≡ 7)
