-- The laws of all runs of a ledger, as statements
use Rattle.std.specs.Prelude.{◌≡◌, ◌⊎◌, ℕ, ◌+◌, ◌<◌, ◌≤◌, Bool, true, false, cond, Option, None, Some, Ok, List, []}
use Rattle.std.specs.Prelude.{◌∷◌, ◌++◌, All, Any, AllPairs, if◌then◌else◌, unwrap_or}
use Rattle.key_slots.specs.declared.memory.Slot.{Slot}
use Rattle.key_slots.specs.Slots.{slot_at, counter_of, IsSlots}
use Rattle.key_slots.specs.Usage.{first_applying}
use Rattle.memory_update.specs.Loading.{key_in, head_refusals, Allows}
use Rattle.memory_update.specs.Messages.{Builds}
use Rattle.machine_runs.specs.Run.{Moment, Run}
use Rattle.key_campaign.specs.declared.commands.LedgerCommand.{LedgerCommand}
use Rattle.key_campaign.specs.declared.commands.LedgerCommand.TheVariants as command
use Rattle.key_campaign.specs.declared.entries.LedgerEntry.{LedgerEntry}
use Rattle.key_campaign.specs.declared.lines.LedgerLine.{LedgerLine}
use Rattle.key_campaign.specs.declared.lines.LedgerLine.TheVariants as line
use Rattle.key_campaign.specs.declared.lines.LedgerRefusal.TheVariants as refusal
use Rattle.key_campaign.specs.Entries.{same_slot, entry_for, last_issued}
use Rattle.key_campaign.specs.Campaign.{Campaign, SoundLedger}
use Rattle.key_campaign.specs.Steps.{update_for, ConfirmsWith, LedgerStep}

-- a command, its line, and the ledger after it
abbrev pub LedgerMoment : Type 0
LedgerMoment = Moment LedgerCommand LedgerLine Campaign

-- a run begins at a sound ledger with nothing pending
pub record BeginsLedger (start : Campaign) : Type 0 where
  pub sound : SoundLedger start
  pub calm : start.pending ≡ None

-- each run has this
abbrev pub EachLedgerRun : (Campaign → List LedgerMoment → Campaign → Type 0) → Type 0
EachLedgerRun Claim = (start : Campaign) (ms : List LedgerMoment) (last : Campaign)
    → BeginsLedger start → Run LedgerStep start ms last → Claim start ms last

abbrev pub LedgerStepsKeepSound : Type 0
LedgerStepsKeepSound = (c : Campaign) (cmd : LedgerCommand) (told : LedgerLine) (after : Campaign)
    → SoundLedger c → LedgerStep c cmd told after → SoundLedger after

-- ---- what a moment issued

-- the counter that was issued for this unit and slot, if one was
abbrev pub issued_for : List ℕ → ℕ → LedgerCommand → LedgerLine → Option ℕ
issued_for uid id (command.Issue i) (line.Issued counter request) =
    if same_slot uid id i.uid i.id then Some counter else None
issued_for uid id _ _ = None

-- an issue for this unit and slot failed with the disk
abbrev pub failed_for : List ℕ → ℕ → LedgerCommand → LedgerLine → Bool
failed_for uid id (command.Issue i) (line.Refused refusal.MemoryFailure) = same_slot uid id i.uid i.id
failed_for uid id _ _ = false

-- ---- the laws

-- of two counters that were issued for one unit and slot the later is greater
abbrev pub CountersRise : List LedgerMoment → Type 0
CountersRise = AllPairs (λ m n. (uid : List ℕ) (id counter later : ℕ)
    → issued_for uid id m.command m.line ≡ Some counter
    → issued_for uid id n.command n.line ≡ Some later → counter < later)

-- a request that was issued builds the update with its counter
abbrev pub BuildsItsUpdate : LedgerCommand → LedgerLine → Type 0
BuildsItsUpdate (command.Issue i) (line.Issued counter request) = Builds request i.authkey (update_for i counter)
BuildsItsUpdate _ _ = Unit {0}

-- An engine of its unit with these slots allows it, if the authorising slot has the given key and the target's counter
-- is below. None of the refusals by the two slots alone may apply.
abbrev pub IsAllowedIn : List Slot → Bool → LedgerCommand → LedgerLine → Type 0
IsAllowedIn slots good (command.Issue i) (line.Issued counter request) =
    IsSlots slots → key_in (slot_at slots i.auth) ≡ i.authkey → counter_of (slot_at slots i.id) < counter
    → first_applying (head_refusals slots good i.id i.auth) ≡ None
    → Allows slots good i.uid request (Ok (update_for i counter))
IsAllowedIn slots good _ _ = Unit {0}

-- the entry of a unit and slot is still there, with no lower counter
pub record StillKept (uid : List ℕ) (id : ℕ) (e : LedgerEntry) (last : Campaign) : Type 0 where
  pub now : LedgerEntry
  pub there : entry_for uid id last.entries ≡ Some now
  pub no_lower : e.counter ≤ now.counter

abbrev pub KeepsEntries : Campaign → Campaign → Type 0
KeepsEntries start last = (uid : List ℕ) (id : ℕ) (e : LedgerEntry)
    → entry_for uid id start.entries ≡ Some e → StillKept uid id e last

-- each entry that was there at the start of a run, or after one of its moments, is there at its end. Its counter isn't
-- lower
abbrev pub NoneGoes : Campaign → List LedgerMoment → Campaign → Type 0
NoneGoes start ms last = KeepsEntries start last × All (λ m. KeepsEntries m.after last) ms

-- the command confirms this unit and slot, with a reply that confirms an update with this counter
abbrev pub CarriesReply : List ℕ → ℕ → ℕ → LedgerCommand → Type 0
CarriesReply uid id counter (command.Confirm k) = (k.uid ≡ uid) × (k.id ≡ id) × ConfirmsWith k counter
CarriesReply uid id counter _ = ⊥

-- an entry that is confirmed was so at first, or such a command came
abbrev pub ConfirmedByReply : Campaign → List LedgerMoment → Campaign → Type 0
ConfirmedByReply start ms last = (uid : List ℕ) (id : ℕ) (e : LedgerEntry)
    → entry_for uid id last.entries ≡ Some e → e.confirmed ≡ true
    → (entry_for uid id start.entries ≡ Some e) ⊎ Any (λ m. CarriesReply uid id e.counter m.command) ms

-- the counter that was issued last for a unit and slot, or else the one at first
abbrev pub issued_before : List ℕ → ℕ → ℕ → List LedgerMoment → ℕ
issued_before uid id first [] = first
issued_before uid id first (m ∷ ms) = issued_before uid id (unwrap_or (issued_for uid id m.command m.line) first) ms

-- how many of its issues failed with the disk since, on top of those so far
abbrev pub failures_after : Option ℕ → Bool → ℕ → ℕ
failures_after None failed so_far = cond failed 1 0 + so_far
failures_after (Some counter) failed so_far = 0

abbrev pub failed_since : List ℕ → ℕ → ℕ → List LedgerMoment → ℕ
failed_since uid id so_far [] = so_far
failed_since uid id so_far (m ∷ ms) =
    let failures = failures_after (issued_for uid id m.command m.line) (failed_for uid id m.command m.line) so_far in
    failed_since uid id failures ms

-- a counter that is issued is at most one more than the one before, and one more for each issue since that failed
abbrev pub FewAreSkipped : Campaign → List LedgerMoment → Type 0
FewAreSkipped start ms = (done rest : List LedgerMoment) (m : LedgerMoment) (uid : List ℕ) (id counter : ℕ)
    → ms ≡ done ++ m ∷ rest
    → issued_for uid id m.command m.line ≡ Some counter
    → counter ≤ issued_before uid id (last_issued uid id start.entries) done + 1 + failed_since uid id 0 done

-- ---- of each run

abbrev pub RunsCountersRise : Type 0
RunsCountersRise = EachLedgerRun (λ start ms last. CountersRise ms)

abbrev pub RunsBuildUpdates : Type 0
RunsBuildUpdates = EachLedgerRun (λ start ms last. All (λ m. BuildsItsUpdate m.command m.line) ms)

abbrev pub RunsAreAllowed : Type 0
RunsAreAllowed = EachLedgerRun (λ start ms last. (slots : List Slot) (good : Bool)
    → All (λ m. IsAllowedIn slots good m.command m.line) ms)

abbrev pub RunsKeepEntries : Type 0
RunsKeepEntries = EachLedgerRun NoneGoes

abbrev pub RunsConfirmByReply : Type 0
RunsConfirmByReply = EachLedgerRun ConfirmedByReply

abbrev pub RunsSkipFew : Type 0
RunsSkipFew = EachLedgerRun (λ start ms last. FewAreSkipped start ms)

abbrev pub LedgerRunsAreSound : Type 0
LedgerRunsAreSound = EachLedgerRun (λ start ms last. SoundLedger last)
