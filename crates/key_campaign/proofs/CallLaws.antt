-- What the calls of a ledger are to the machine
use Rattle.std.specs.Prelude.{◌≡◌, ℕ, true, false}
use Rattle.std.proofs.Common.{refl, sym, ap}
use Rattle.key_slots.specs.Authority.{is_pair}
use Rattle.key_slots.specs.declared.memory.Flags.{Flags}
use Rattle.memory_update.specs.Messages.{Builds, Confirms}
use Rattle.memory_update.specs.declared.messages.Request.{Request}
use Rattle.key_campaign.specs.declared.commands.Issue.{Issue}
use Rattle.key_campaign.specs.declared.commands.Confirm.{Confirm}
use Rattle.key_campaign.specs.declared.commands.LedgerCommand.TheVariants as command
use Rattle.key_campaign.specs.declared.entries.LedgerEntry.{LedgerEntry}
use Rattle.key_campaign.specs.declared.entries.PendingEntry.{PendingEntry}
use Rattle.key_campaign.specs.declared.lines.LedgerLine.TheVariants as line
use Rattle.key_campaign.specs.declared.lines.LedgerRefusal.TheVariants as refusal
use Rattle.key_campaign.specs.Entries.{IsUnit, entry_counter, Advances}
use Rattle.key_campaign.specs.Campaign.{Campaign, changed_ledger, failed_change, SoundLedger}
use Rattle.key_campaign.specs.Steps.{update_for, update_told, issued_entry, MakesIssue, MakesConfirm, LedgerStep}
use Rattle.key_campaign.proofs.SoundSteps.{advances_made}
use Rattle.key_campaign.specs.declared.faults.LedgerFault.{LedgerFault}
use Rattle.key_campaign.specs.declared.faults.LedgerFault.TheVariants as fault
use Rattle.key_campaign.specs.Lines.{ledger_refusal}
use Rattle.key_campaign.specs.Places.{FoundEntry, IsNext, HasNoNext}

-- ---- an issue

module _ (c : Campaign) (i : Issue) (unit : IsUnit i.uid) (up : c.up ≡ true) (pair : is_pair i.id i.auth ≡ true) (place counter : ℕ) (next : IsNext i.uid i.id c.entries place counter) where
  abbrev pub issue_change : PendingEntry
  issue_change = record { place = place; entry = issued_entry i counter }

  makes_next : MakesIssue c i issue_change
  makes_next = record {
    is_unit = unit;
    is_up = up;
    pair = pair;
    takes = next.takes;
    below = next.below;
    entry_is = ap (issued_entry i) next.counter_is;
  }

  pub advances_next : SoundLedger c → Advances c.entries issue_change
  advances_next sound = advances_made c (command.Issue i) issue_change sound makes_next

  pub step_issued : (request : Request) (after : Campaign) → Builds request i.authkey (update_for i counter) → after ≡ changed_ledger issue_change c
      → LedgerStep c (command.Issue i) (line.Issued counter request) after
  step_issued request after builds is = record {
    change = issue_change;
    makes = makes_next;
    counter_is = next.counter_is;
    builds = builds;
    after_is = is;
  }

  pub step_unissued : (after : Campaign) → after ≡ failed_change issue_change c → LedgerStep c (command.Issue i) (line.Refused refusal.MemoryFailure) after
  step_unissued after is = (issue_change, makes_next, is)

pub step_no_next : (c : Campaign) (i : Issue) (why : LedgerFault) → c.up ≡ true → is_pair i.id i.auth ≡ true → HasNoNext i.uid i.id c.entries why
    → LedgerStep c (command.Issue i) (line.Refused (ledger_refusal why)) c
step_no_next c i fault.Full up pair none = ((up, pair, none), refl)
step_no_next c i fault.Spent up pair none = ((up, pair, none), refl)
step_no_next c i _ up pair none = absurd none

-- ---- a confirmation

abbrev pub as_confirmed : LedgerEntry → LedgerEntry
as_confirmed e = record e { confirmed = true }

module _ (c : Campaign) (k : Confirm) (up : c.up ≡ true) (place : ℕ) (e : LedgerEntry) (found : FoundEntry k.uid k.id c.entries place e) where
  module _ (open_yet : e.confirmed ≡ false) where
    module _ (flags : Flags) (confirms : Confirms k.reply (update_told k e.counter flags) k.uid) where
      abbrev pub confirm_change : PendingEntry
      confirm_change = record { place = place; entry = as_confirmed e }

      makes_found : MakesConfirm c k confirm_change
      makes_found = record {
        is_up = up;
        entry = e;
        found = found.entry_is;
        unconfirmed = open_yet;
        confirms = (flags, confirms);
        place_is = found.place_is;
        entry_is = refl;
      }

      pub advances_found : SoundLedger c → Advances c.entries confirm_change
      advances_found sound = advances_made c (command.Confirm k) confirm_change sound makes_found

      pub step_confirmed : (after : Campaign) → after ≡ changed_ledger confirm_change c → LedgerStep c (command.Confirm k) (line.Confirmed e.counter) after
      step_confirmed after is = record { change = confirm_change; makes = makes_found; counter_is = sym (ap entry_counter found.entry_is); after_is = is }

      pub step_unconfirmed : (after : Campaign) → after ≡ failed_change confirm_change c → LedgerStep c (command.Confirm k) (line.Refused refusal.MemoryFailure) after
      step_unconfirmed after is = (confirm_change, makes_found, is)
