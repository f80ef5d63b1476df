-- What holds of a campaign over a disk that tells its bytes: all of it is said of one run of the machine (own)
use Rattle.std.specs.Prelude.{◌≡◌, Bool, Option, Some, List, length, take, All, Result}
use Rattle.bus_port.specs.Sink.{SinkState}
use Rattle.cut_disk.specs.State.{DiskState, Told, Entry}
use Rattle.cut_disk.specs.Calls.{Later}
use Rattle.key_slots.specs.declared.memory.Slot.{Slot}
use Rattle.machine_runs.specs.Run.{Moment, Run, commands_in, seen_as}
use Rattle.run_driver.specs.declared.printing.Unwritten.{Unwritten}
use Rattle.run_driver.specs.Printed.{Printed, Written}
use Rattle.store_keeping.specs.Keeping.{Fits}
use Rattle.store_keeping.specs.DiskTurns.{TracedSince, FailuresTold}
use Rattle.key_campaign.specs.declared.commands.LedgerCommand.{LedgerCommand}
use Rattle.key_campaign.specs.declared.lines.LedgerLine.{LedgerLine}
use Rattle.key_campaign.specs.declared.entries.LedgerEntry.{LedgerEntry}
use Rattle.key_campaign.specs.Entries.{AreLedgerEntries}
use Rattle.key_campaign.specs.Campaign.{Campaign, powered_ledger}
use Rattle.key_campaign.specs.Steps.{LedgerStep}
use Rattle.key_campaign.specs.Claims.{LedgerMoment, CountersRise, BuildsItsUpdate, IsAllowedIn, NoneGoes}
use Rattle.key_campaign.specs.Claims.{ConfirmedByReply, FewAreSkipped}
use Rattle.key_campaign.specs.State.{LedgerState, keeping_of}
use Rattle.campaign_commands.specs.LedgerTexts.{ledger_line_text}
use Rattle.campaign_commands.specs.Turns.{LedgerTurn, ledger_mark, ledger_calls, tells_disk_failure}
use Rattle.campaign_commands.specs.Opening.{ledger_layout, StartsFrom, TellsFirm, LedgerOpened}

-- ---- over disks of any kind

-- a ledger was opened on the disk, and did the first commands, up to the first whose text wasn't written
pub record RanCampaign (before after : DiskState) (commands : List LedgerCommand)
    (sink_before sink_after : SinkState) (result : Result (Unit {0}) Unwritten) : Type 0 where
  pub start : LedgerState
  pub now : LedgerState
  pub opened : LedgerOpened before start
  pub printed : Printed LedgerTurn ledger_line_text start now sink_before sink_after commands result
  pub disk : after ≡ now.store.disk

-- what was done to a ledger over its store, as moments of the ledger's machine
abbrev pub ledger_seen : List (Moment LedgerCommand LedgerLine LedgerState) → List LedgerMoment
ledger_seen moments = seen_as (λ (c : LedgerCommand). c) (λ (s : LedgerState). s.campaign) moments

-- the disk, whether it tells its bytes or not: its count isn't below, and what it told of its past it still tells; and
-- its failures are told
pub record LedgerDiskStays (before after : DiskState) (moments : List LedgerMoment) : Type 0 where
  pub later : Later before after
  pub failures : FailuresTold ledger_mark (λ _ told. tells_disk_failure told) moments before after

-- ---- over a disk that tells its bytes, none of them loose

-- a state of the disk fits a ledger: each image stands for its entries, or for those with the pending change
abbrev pub FitsCampaign : Campaign → Told → Type 0
FitsCampaign c told = Fits ledger_layout (keeping_of c) told

-- the disk handed back fits the last ledger; and if it tells its past, what was added is traced
pub record LedgerDisk (before after : DiskState) (start : Campaign)
    (moments : List LedgerMoment) (last : Campaign) : Type 0 where
  pub now : Told
  pub told : after.told ≡ Some now
  pub fits : FitsCampaign last now
  pub traced : (all : List Entry) → after.past ≡ Some all
      → TracedSince ledger_mark (λ _ cmd. ledger_calls cmd) FitsCampaign start moments before all

-- all of one run
pub record Campaigned (before after : DiskState) (commands : List LedgerCommand)
    (sink_before sink_after : SinkState) (result : Result (Unit {0}) Unwritten) : Type 0 where
  pub entries : List (Option LedgerEntry)
  pub moments : List LedgerMoment
  pub last : Campaign
  pub starts : StartsFrom before entries
  pub entries_are : AreLedgerEntries entries
  pub is_a_run : Run LedgerStep (powered_ledger entries) moments last
  pub first : commands_in moments ≡ take (length moments) commands
  pub written : Written ledger_line_text sink_before sink_after commands result moments
  pub disks : LedgerDisk before after (powered_ledger entries) moments last
  pub failures : FailuresTold ledger_mark (λ _ told. tells_disk_failure told) moments before after
  pub counters_rise : CountersRise moments
  pub builds : All (λ m. BuildsItsUpdate m.command m.line) moments
  pub taken : (slots : List Slot) (good : Bool) → All (λ m. IsAllowedIn slots good m.command m.line) moments
  pub confirmed_by_a_reply : ConfirmedByReply (powered_ledger entries) moments last
  pub none_goes : NoneGoes (powered_ledger entries) moments last
  pub few_are_skipped : FewAreSkipped (powered_ledger entries) moments

-- what was done of a campaign over such a disk has all of this
abbrev pub CampaignsAreRuns : Type 0
CampaignsAreRuns = (before after : DiskState) (commands : List LedgerCommand)
    (sink_before sink_after : SinkState) (result : Result (Unit {0}) Unwritten)
    → RanCampaign before after commands sink_before sink_after result → TellsFirm before
    → Campaigned before after commands sink_before sink_after result
