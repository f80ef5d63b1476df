-- What a ledger may answer to a command, and what it then is (own; updates, their pairs of slots and their replies are
-- those of the SHE specification)
use Rattle.std.specs.Prelude.{◌≡◌, ◌⊎◌, ℕ, ◌+◌, ◌<◌, Bool, true, false, Option, None, Some, List, length, option_map}
use Rattle.key_slots.specs.Authority.{is_pair}
use Rattle.key_slots.specs.declared.memory.Flags.{Flags}
use Rattle.memory_update.specs.Messages.{Builds, Confirms}
use Rattle.memory_update.specs.declared.messages.Request.{Request}
use Rattle.memory_update.specs.declared.messages.Update.{Update}
use Rattle.key_campaign.specs.declared.commands.Issue.{Issue}
use Rattle.key_campaign.specs.declared.commands.Confirm.{Confirm}
use Rattle.key_campaign.specs.declared.commands.LedgerCommand.{LedgerCommand}
use Rattle.key_campaign.specs.declared.commands.LedgerCommand.TheVariants as command
use Rattle.key_campaign.specs.declared.entries.LedgerEntry.{LedgerEntry}
use Rattle.key_campaign.specs.declared.entries.PendingEntry.{PendingEntry}
use Rattle.key_campaign.specs.declared.lines.LedgerLine.{LedgerLine}
use Rattle.key_campaign.specs.declared.lines.LedgerLine.TheVariants as line
use Rattle.key_campaign.specs.declared.lines.LedgerRefusal.{LedgerRefusal}
use Rattle.key_campaign.specs.declared.lines.LedgerRefusal.TheVariants as refusal
use Rattle.key_campaign.specs.Entries.{greatest_counter, IsUnit, place_for, empty_place, entry_for, last_issued}
use Rattle.key_campaign.specs.Entries.{TakesPlace, with_change}
use Rattle.key_campaign.specs.Campaign.{Campaign, powered_ledger, changed_ledger, failed_change, stays_off}

-- ---- what is asked of a unit, and what its reply says

-- the update that is asked for, with this counter
abbrev pub update_for : Issue → ℕ → Update
update_for i counter = record { uid = i.uid; id = i.id; auth = i.auth; counter = counter; flags = i.flags; key = i.key }

-- the update whose reply it is said to be, with this counter and these flags
abbrev pub update_told : Confirm → ℕ → Flags → Update
update_told k counter flags =
    record { uid = k.uid; id = k.id; auth = k.auth; counter = counter; flags = flags; key = k.key }

-- the reply confirms an update of this unit, slot, authorising slot and key with this counter
abbrev pub ConfirmsWith : Confirm → ℕ → Type 0
ConfirmsWith k counter = (flags : Flags) × Confirms k.reply (update_told k counter flags) k.uid

-- ---- an issue

-- there is no entry of this unit and slot, and no empty place
pub record HasNoPlace (entries : List (Option LedgerEntry)) (uid : List ℕ) (id : ℕ) : Type 0 where
  pub unknown : entry_for uid id entries ≡ None
  pub full : empty_place entries ≡ length entries

-- the refusals of an issue, each if none before it applies
abbrev pub RefusesIssue : Campaign → Issue → LedgerRefusal → Type 0
RefusesIssue c i refusal.Down = c.up ≡ false
RefusesIssue c i refusal.BadPair = (c.up ≡ true) × (is_pair i.id i.auth ≡ false)
RefusesIssue c i refusal.Full = (c.up ≡ true) × (is_pair i.id i.auth ≡ true) × HasNoPlace c.entries i.uid i.id
RefusesIssue c i refusal.Spent =
    (c.up ≡ true) × (is_pair i.id i.auth ≡ true) × (last_issued i.uid i.id c.entries ≡ greatest_counter)
RefusesIssue c i _ = ⊥

-- the entry of an update that was issued with this counter
abbrev pub issued_entry : Issue → ℕ → LedgerEntry
issued_entry i counter = record { uid = i.uid; id = i.id; counter = counter; confirmed = false }

-- none applies, the update is for one unit, and the entry with the next counter is to be put into its place
pub record MakesIssue (c : Campaign) (i : Issue) (change : PendingEntry) : Type 0 where
  pub is_unit : IsUnit i.uid
  pub is_up : c.up ≡ true
  pub pair : is_pair i.id i.auth ≡ true
  pub takes : TakesPlace i.uid i.id c.entries change.place
  pub below : last_issued i.uid i.id c.entries < greatest_counter
  pub entry_is : change.entry ≡ issued_entry i (last_issued i.uid i.id c.entries + 1)

-- ---- a confirmation

-- this is the entry of the unit and slot
abbrev pub HasEntry : Campaign → Confirm → LedgerEntry → Type 0
HasEntry c k e = entry_for k.uid k.id c.entries ≡ Some e

-- the refusals of a confirmation, each if none before it applies
abbrev pub RefusesConfirm : Campaign → Confirm → LedgerRefusal → Type 0
RefusesConfirm c k refusal.Down = c.up ≡ false
RefusesConfirm c k refusal.Unknown = (c.up ≡ true) × (entry_for k.uid k.id c.entries ≡ None)
RefusesConfirm c k refusal.AlreadyConfirmed =
    (c.up ≡ true) × ((e : LedgerEntry) × HasEntry c k e × (e.confirmed ≡ true))
RefusesConfirm c k refusal.NotConfirmed =
    (c.up ≡ true) × ((e : LedgerEntry) × HasEntry c k e × (e.confirmed ≡ false) × (¬ ConfirmsWith k e.counter))
RefusesConfirm c k _ = ⊥

-- none applies, and the entry is to be put into its place as confirmed
pub record MakesConfirm (c : Campaign) (k : Confirm) (change : PendingEntry) : Type 0 where
  pub is_up : c.up ≡ true
  pub entry : LedgerEntry
  pub found : HasEntry c k entry
  pub unconfirmed : entry.confirmed ≡ false
  pub confirms : ConfirmsWith k entry.counter
  pub place_is : change.place ≡ place_for k.uid k.id c.entries
  pub entry_is : change.entry ≡ record entry { confirmed = true }

-- ---- the rows: a command, the line that tells what came of it, and the ledger after it

-- the change of one place that a command is to make
abbrev pub MakesEntry : Campaign → LedgerCommand → PendingEntry → Type 0
MakesEntry c (command.Issue i) change = MakesIssue c i change
MakesEntry c (command.Confirm k) change = MakesConfirm c k change
MakesEntry c _ change = ⊥

-- a change was to be made, and the disk failed: the ledger is down, and the change is pending
abbrev pub FaultsLedger : Campaign → LedgerCommand → Campaign → Type 0
FaultsLedger c cmd after = (change : PendingEntry) × MakesEntry c cmd change × (after ≡ failed_change change c)

-- the change was made, and the request builds the update with the new counter
pub record IssuesRequest (c : Campaign) (i : Issue) (counter : ℕ) (request : Request) (after : Campaign) : Type 0 where
  pub change : PendingEntry
  pub makes : MakesIssue c i change
  pub counter_is : counter ≡ last_issued i.uid i.id c.entries + 1
  pub builds : Builds request i.authkey (update_for i counter)
  pub after_is : after ≡ changed_ledger change c

-- the change was made, of the entry with this counter
pub record RecordsReply (c : Campaign) (k : Confirm) (counter : ℕ) (after : Campaign) : Type 0 where
  pub change : PendingEntry
  pub makes : MakesConfirm c k change
  pub counter_is : counter ≡ last_issued k.uid k.id c.entries
  pub after_is : after ≡ changed_ledger change c

-- what `show` says of an entry
abbrev pub told_entry : LedgerEntry → ℕ × Bool
told_entry e = (e.counter, e.confirmed)

-- the list is as before, or has the pending change
abbrev pub PowersLedger : Campaign → Campaign → Type 0
PowersLedger c after =
    (after ≡ powered_ledger c.entries)
    ⊎ ((change : PendingEntry) × (c.pending ≡ Some change) × (after ≡ powered_ledger (with_change change c.entries)))

abbrev pub LedgerStep : Campaign → LedgerCommand → LedgerLine → Campaign → Type 0
LedgerStep c (command.Issue i) (line.Issued counter request) after = IssuesRequest c i counter request after
LedgerStep c (command.Issue i) (line.Refused refusal.MemoryFailure) after = FaultsLedger c (command.Issue i) after
LedgerStep c (command.Issue i) (line.Refused why) after = RefusesIssue c i why × (after ≡ c)
LedgerStep c (command.Confirm k) (line.Confirmed counter) after = RecordsReply c k counter after
LedgerStep c (command.Confirm k) (line.Refused refusal.MemoryFailure) after = FaultsLedger c (command.Confirm k) after
LedgerStep c (command.Confirm k) (line.Refused why) after = RefusesConfirm c k why × (after ≡ c)
LedgerStep c (command.Show uid id) (line.Shown told) after =
    (told ≡ option_map told_entry (entry_for uid id c.entries)) × (after ≡ c)
LedgerStep c (command.Cut torn) line.Up after = PowersLedger c after
LedgerStep c (command.Cut torn) (line.Refused refusal.MemoryFailure) after = after ≡ stays_off c
LedgerStep c (command.Stop calls) line.Armed after = after ≡ c
LedgerStep c (command.Fail calls) line.Armed after = after ≡ c
LedgerStep c _ _ after = ⊥
