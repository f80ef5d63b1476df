-- What a ledger takes over of an entry that is known from elsewhere: a unit that has keys already, a backup, or another
-- ledger (own)
use Rattle.std.specs.Prelude.{◌≡◌, ◌<◌, ◌≤◌, ℕ, ◌==◌, ◌&&◌, ◌||◌, not, nat_lt, Bool, true, false, Option, None, Some}
use Rattle.std.specs.Prelude.{List, Result, Ok, Err}
use Rattle.key_campaign.specs.declared.entries.LedgerEntry.{LedgerEntry}
use Rattle.key_campaign.specs.declared.entries.PendingEntry.{PendingEntry}
use Rattle.key_campaign.specs.declared.faults.LedgerFault.{LedgerFault}
use Rattle.key_campaign.specs.declared.faults.LedgerFault.TheVariants as fault
use Rattle.key_campaign.specs.declared.adoption.Adoption.{Adoption}
use Rattle.key_campaign.specs.declared.adoption.Adoption.TheVariants as adoption
use Rattle.key_campaign.specs.Entries.{IsEntry, TakesPlace, entry_for, last_issued}
use Rattle.key_campaign.specs.Campaign.{Campaign, SoundLedger, changed_ledger, failed_change}
use Rattle.key_campaign.specs.Steps.{HasNoPlace, PowersLedger}
use Rattle.key_campaign.specs.Claims.{KeepsEntries}

-- the entry says more than what a ledger has of its unit and slot: a higher counter, or the same and it alone is
-- confirmed
abbrev pub says_more : Option LedgerEntry → LedgerEntry → Bool
says_more None entry = true
says_more (Some held) entry =
    nat_lt held.counter entry.counter || (held.counter == entry.counter && (entry.confirmed && not held.confirmed))

-- the place at which such an entry is to be put
pub record TakesAdopted (entries : List (Option LedgerEntry)) (entry : LedgerEntry) (place : ℕ) : Type 0 where
  pub takes : TakesPlace entry.uid entry.id entries place
  pub more : says_more (entry_for entry.uid entry.id entries) entry ≡ true

-- why nothing is to be put: what is held says as much, or more with this counter, or there is no place
abbrev pub AnswersUnput : List (Option LedgerEntry) → LedgerEntry → Result Adoption LedgerFault → Type 0
AnswersUnput entries entry (Ok adoption.Held) =
    (held : LedgerEntry) × (entry_for entry.uid entry.id entries ≡ Some held) × (held.counter ≡ entry.counter)
    × (says_more (Some held) entry ≡ false)
AnswersUnput entries entry (Ok (adoption.Behind counter)) =
    (held : LedgerEntry) × (entry_for entry.uid entry.id entries ≡ Some held) × (entry.counter < held.counter)
    × (counter ≡ held.counter)
AnswersUnput entries entry (Err fault.Full) = HasNoPlace entries entry.uid entry.id
AnswersUnput entries entry _ = ⊥

-- the entry is to be put into its place
pub record MakesAdopt (c : Campaign) (entry : LedgerEntry) (change : PendingEntry) : Type 0 where
  pub is_up : c.up ≡ true
  pub place : TakesAdopted c.entries entry change.place
  pub entry_is : change.entry ≡ entry

-- an adoption: what is answered, and the ledger after it
abbrev pub AdoptStep : Campaign → LedgerEntry → Result Adoption LedgerFault → Campaign → Type 0
AdoptStep c entry (Ok adoption.Raised) after =
    (change : PendingEntry) × MakesAdopt c entry change × (after ≡ changed_ledger change c)
AdoptStep c entry (Err fault.Faulted) after =
    (change : PendingEntry) × MakesAdopt c entry change × (after ≡ failed_change change c)
AdoptStep c entry (Err fault.Down) after = (c.up ≡ false) × (after ≡ c)
AdoptStep c entry answer after = (c.up ≡ true) × AnswersUnput c.entries entry answer × (after ≡ c)

-- ---- the laws

-- this holds of each adoption over a sound ledger
abbrev pub EachAdoption : (Campaign → LedgerEntry → Result Adoption LedgerFault → Campaign → Type 0) → Type 0
EachAdoption Claim = (c : Campaign) (entry : LedgerEntry) (result : Result Adoption LedgerFault) (after : Campaign)
    → SoundLedger c → IsEntry entry → AdoptStep c entry result after → Claim c entry result after

-- the ledger stays sound
abbrev pub AdoptionsKeepSound : Type 0
AdoptionsKeepSound = EachAdoption (λ c entry result after. SoundLedger after)

-- no entry goes, and no counter falls: now, and after the next power-up, which has the pending change or not
abbrev pub AdoptionsKeepEntries : Type 0
AdoptionsKeepEntries = EachAdoption (λ c entry result after. KeepsEntries c after
    × ((powered : Campaign) → PowersLedger after powered → KeepsEntries c powered))

-- after an answer that isn't a refusal the counter is at least the adopted one
abbrev pub AdoptionsReach : Type 0
AdoptionsReach = (c : Campaign) (entry : LedgerEntry) (done : Adoption) (after : Campaign)
    → SoundLedger c → IsEntry entry → AdoptStep c entry (Ok done) after
    → entry.counter ≤ last_issued entry.uid entry.id after.entries

-- every other entry is as it was
abbrev pub AdoptionsTouchNoOther : Type 0
AdoptionsTouchNoOther = EachAdoption (λ c entry result after. (uid : List ℕ) (id : ℕ)
    → ((uid ≡ entry.uid) × (id ≡ entry.id) → ⊥) → entry_for uid id after.entries ≡ entry_for uid id c.entries)
