-- An adoption moves a ledger forward, and what it leaves
use Rattle.std.specs.Prelude.{◌≡◌, ◌↔◌, ℕ, ◌≤◌, true, false, Option, None, Some, List, Result, Ok, Err, IsErrOf}
use Rattle.std.proofs.Common.{refl, sym, ap, subst, ◌∙◌, arith, inl, inr, true≢false}
use Rattle.std.proofs.lemmas.Bool.Decides.{nat_tests}
use Rattle.std.proofs.lemmas.Option.{same_Some, none-some}
use Rattle.key_campaign.specs.declared.adoption.Adoption.{Adoption}
use Rattle.key_campaign.specs.declared.adoption.Adoption.TheVariants as adoption
use Rattle.key_campaign.specs.declared.entries.LedgerEntry.{LedgerEntry}
use Rattle.key_campaign.specs.declared.entries.PendingEntry.{PendingEntry}
use Rattle.key_campaign.specs.declared.faults.LedgerFault.{LedgerFault}
use Rattle.key_campaign.specs.declared.faults.LedgerFault.TheVariants as fault
use Rattle.key_campaign.specs.Entries.{IsEntry, entry_for, entry_counter, last_issued, with_change, Advances}
use Rattle.key_campaign.specs.Campaign.{Campaign, changed_ledger, failed_change, SoundLedger}
use Rattle.key_campaign.specs.Steps.{HasNoPlace, PowersLedger}
use Rattle.key_campaign.specs.Claims.{KeepsEntries}
use Rattle.key_campaign.specs.Adopting.{says_more, TakesAdopted, AnswersUnput, MakesAdopt, AdoptStep}
use Rattle.key_campaign.proofs.Changes.{entry_after, own_entry}
use Rattle.key_campaign.proofs.Refusals.{place_or_none}
use Rattle.key_campaign.proofs.Rising.{kept_change}
use Rattle.key_campaign.proofs.SoundSteps.{pending_advances, sound_made, sound_failed}

-- ---- what says more has no lower counter

pub more_is_forward : (held : Option LedgerEntry) (entry : LedgerEntry) → says_more held entry ≡ true → entry_counter held ≤ entry.counter
more_is_forward None entry e = omega arith
more_is_forward (Some held) entry e = grind (arith, nat_tests)

pub advances_adopt : (c : Campaign) (entry : LedgerEntry) (change : PendingEntry) → IsEntry entry → MakesAdopt c entry change → Advances c.entries change
advances_adopt c entry change is makes =
    let all : Advances c.entries (record { place = change.place; entry = entry }) = record {
      takes = makes.place.takes;
      is_entry = is;
      forward = more_is_forward (entry_for entry.uid entry.id c.entries) entry makes.place.more;
    } in
    subst (λ (x : LedgerEntry). Advances c.entries (record { place = change.place; entry = x })) (sym makes.entry_is) all

-- ---- what an adoption does, whatever it answers

pub data AdoptEffect (c : Campaign) (entry : LedgerEntry) (after : Campaign) : Type 0 where
  kept : after ≡ c → AdoptEffect c entry after
  put : (change : PendingEntry) → MakesAdopt c entry change → after ≡ changed_ledger change c → AdoptEffect c entry after
  lost : (change : PendingEntry) → MakesAdopt c entry change → after ≡ failed_change change c → AdoptEffect c entry after

pub adopt_effect : (c : Campaign) (entry : LedgerEntry) (result : Result Adoption LedgerFault) (after : Campaign) → AdoptStep c entry result after → AdoptEffect c entry after
adopt_effect c entry (Ok adoption.Raised) after step = put step.0 step.1 step.2
adopt_effect c entry (Ok adoption.Held) after step = kept step.2
adopt_effect c entry (Ok (adoption.Behind counter)) after step = kept step.2
adopt_effect c entry (Err fault.Faulted) after step = lost step.0 step.1 step.2
adopt_effect c entry (Err fault.Down) after step = kept step.1
adopt_effect c entry (Err fault.Full) after step = kept step.2
adopt_effect c entry (Err _) after step = absurd step.1

-- ---- the laws

pub adopted_sound : (c : Campaign) (entry : LedgerEntry) (result : Result Adoption LedgerFault) (after : Campaign) → SoundLedger c → IsEntry entry → AdoptStep c entry result after
    → SoundLedger after
adopted_sound c entry result after sound is step = elim (adopt_effect c entry result after step) [
  | kept same ↦ subst SoundLedger (sym same) sound
  | put change makes same ↦ subst SoundLedger (sym same) (sound_made c sound change makes.is_up (advances_adopt c entry change is makes))
  | lost change makes same ↦ subst SoundLedger (sym same) (sound_failed c sound change (advances_adopt c entry change is makes))
]

-- the places are as before, or have a change that moves them forward
data Onward (entries after : List (Option LedgerEntry)) : Type 0 where
  same_places : after ≡ entries → Onward entries after
  changed : (change : PendingEntry) → Advances entries change → after ≡ with_change change entries → Onward entries after

onward_keeps : (c d : Campaign) → Onward c.entries d.entries → KeepsEntries c d
onward_keeps c d onward uid id e at = elim onward [
  | same_places same ↦ record { now = e; there = ap (entry_for uid id) same ∙ at; no_lower = omega arith }
  | changed change advances is ↦
      let there = kept_change c d.entries change uid id e advances is at in
      record { now = there.0; there = there.1; no_lower = there.2 }
]

onward_power : (c after powered : Campaign) (at : after.pending ≡ None) → Onward c.entries after.entries → PowersLedger after powered → Onward c.entries powered.entries
onward_power c after powered at onward power = elim power [
  | inl same ↦ subst (Onward c.entries) (sym (ap (λ (s : Campaign). s.entries) same)) onward
  | inr other ↦ absurd (none-some other.0 (sym at ∙ other.1))
]

adopted_onward : (c : Campaign) (entry : LedgerEntry) (result : Result Adoption LedgerFault) (after : Campaign) → SoundLedger c → IsEntry entry → AdoptStep c entry result after
    → Onward c.entries after.entries
adopted_onward c entry result after sound is step = elim (adopt_effect c entry result after step) [
  | kept same ↦ same_places (ap (λ (s : Campaign). s.entries) same)
  | put change makes same ↦ changed change (advances_adopt c entry change is makes) (ap (λ (s : Campaign). s.entries) same)
  | lost change makes same ↦ same_places (ap (λ (s : Campaign). s.entries) same)
]

powered_onward : (c : Campaign) (entry : LedgerEntry) (result : Result Adoption LedgerFault) (after powered : Campaign) → SoundLedger c → IsEntry entry → AdoptStep c entry result after
    → PowersLedger after powered → Onward c.entries powered.entries
powered_onward c entry result after powered sound is step power = elim (adopt_effect c entry result after step) [
  | kept same ↦ elim (subst (λ (s : Campaign). PowersLedger s powered) same power) [
    | inl as_it_was ↦ same_places (ap (λ (s : Campaign). s.entries) as_it_was)
    | inr other ↦ changed other.0 (pending_advances c other.0 sound other.1) (ap (λ (s : Campaign). s.entries) other.2)
  ]
  | put change makes same ↦
      onward_power c after powered (ap (λ (s : Campaign). s.pending) same ∙ sound.settled makes.is_up)
      (changed change (advances_adopt c entry change is makes) (ap (λ (s : Campaign). s.entries) same)) power
  | lost change makes same ↦ elim (subst (λ (s : Campaign). PowersLedger s powered) same power) [
    | inl as_it_was ↦ same_places (ap (λ (s : Campaign). s.entries) as_it_was)
    | inr other ↦
        let mine : change ≡ other.0 = same_Some change other.0 other.1 in
        changed change (advances_adopt c entry change is makes) (ap (λ (s : Campaign). s.entries) other.2 ∙ ap (λ x. with_change x c.entries) (sym mine))
  ]
]

pub adopted_keeps : (c : Campaign) (entry : LedgerEntry) (result : Result Adoption LedgerFault) (after : Campaign) → SoundLedger c → IsEntry entry → AdoptStep c entry result after
    → KeepsEntries c after × ((powered : Campaign) → PowersLedger after powered → KeepsEntries c powered)
adopted_keeps c entry result after sound is step = (
  onward_keeps c after (adopted_onward c entry result after sound is step),
  λ powered power. onward_keeps c powered (powered_onward c entry result after powered sound is step power),
)

-- the entry that was put is there
pub adopted_there : (c : Campaign) (entry : LedgerEntry) (change : PendingEntry) → MakesAdopt c entry change → entry_for entry.uid entry.id (with_change change c.entries) ≡ Some entry
adopted_there c entry change makes =
    subst (λ (x : LedgerEntry). entry_for entry.uid entry.id (with_change (record { place = change.place; entry = x }) c.entries) ≡ Some entry) (sym makes.entry_is)
    (own_entry c.entries change.place entry makes.place.takes)

pub adopted_reaches : (c : Campaign) (entry : LedgerEntry) (done : Adoption) (after : Campaign) → SoundLedger c → IsEntry entry → AdoptStep c entry (Ok done) after
    → entry.counter ≤ last_issued entry.uid entry.id after.entries
adopted_reaches c entry adoption.Raised after sound is step =
    omega (arith, ap (λ (s : Campaign). last_issued entry.uid entry.id s.entries) step.2, ap entry_counter (adopted_there c entry step.0 step.1))
adopted_reaches c entry adoption.Held after sound is step =
    omega (arith, ap (λ (s : Campaign). last_issued entry.uid entry.id s.entries) step.2, ap entry_counter step.1.1, step.1.2)
adopted_reaches c entry (adoption.Behind counter) after sound is step =
    omega (arith, ap (λ (s : Campaign). last_issued entry.uid entry.id s.entries) step.2, ap entry_counter step.1.1, step.1.2)

pub adopted_alone : (c : Campaign) (entry : LedgerEntry) (result : Result Adoption LedgerFault) (after : Campaign) → SoundLedger c → IsEntry entry → AdoptStep c entry result after
    → (uid : List ℕ) (id : ℕ) → ((uid ≡ entry.uid) × (id ≡ entry.id) → ⊥) → entry_for uid id after.entries ≡ entry_for uid id c.entries
adopted_alone c entry result after sound is step uid id other = elim (adopt_effect c entry result after step) [
  | kept same ↦ ap (λ (s : Campaign). entry_for uid id s.entries) same
  | put change makes same ↦
      let rest : entry_for uid id (with_change change c.entries) ≡ entry_for uid id c.entries =
      subst (λ (x : LedgerEntry). entry_for uid id (with_change (record { place = change.place; entry = x }) c.entries) ≡ entry_for uid id c.entries) (sym makes.entry_is)
      (elim (entry_after c.entries change.place entry makes.place.takes uid id) [
        | inl own ↦ absurd (other (sym own.0, sym own.1))
        | inr as_it_was ↦ as_it_was
      ]) in
      ap (λ (s : Campaign). entry_for uid id s.entries) same ∙ rest
  | lost change makes same ↦ ap (λ (s : Campaign). entry_for uid id s.entries) same
]

-- ---- what a call of a ledger is

module _ (c : Campaign) (entry : LedgerEntry) (up : c.up ≡ true) where
  pub step_unput : (answer : Result Adoption LedgerFault) → AnswersUnput c.entries entry answer → AdoptStep c entry answer c
  step_unput (Ok adoption.Raised) why = absurd why
  step_unput (Ok adoption.Held) why = (up, why, refl)
  step_unput (Ok (adoption.Behind counter)) why = (up, why, refl)
  step_unput (Err fault.Full) why = (up, why, refl)
  step_unput (Err _) why = absurd why

  module _ (place : ℕ) (takes : TakesAdopted c.entries entry place) where
    makes_adopt : MakesAdopt c entry (record { place = place; entry = entry })
    makes_adopt = record { is_up = up; place = takes; entry_is = refl }

    pub advances_adopted : IsEntry entry → Advances c.entries (record { place = place; entry = entry })
    advances_adopted is = advances_adopt c entry (record { place = place; entry = entry }) is makes_adopt

    pub step_raised : (after : Campaign) → after ≡ changed_ledger (record { place = place; entry = entry }) c → AdoptStep c entry (Ok adoption.Raised) after
    step_raised after same = (record { place = place; entry = entry }, makes_adopt, same)

    pub step_unraised : (after : Campaign) → after ≡ failed_change (record { place = place; entry = entry }) c → AdoptStep c entry (Err fault.Faulted) after
    step_unraised after same = (record { place = place; entry = entry }, makes_adopt, same)

-- ---- it is refused exactly by its cause

not_put : (c : Campaign) (entry : LedgerEntry) (change : PendingEntry) → MakesAdopt c entry change → HasNoPlace c.entries entry.uid entry.id → ⊥
not_put c entry change makes none = place_or_none entry.uid entry.id c.entries change.place makes.place.takes none

not_held : (c : Campaign) (entry held : LedgerEntry) → entry_for entry.uid entry.id c.entries ≡ Some held → HasNoPlace c.entries entry.uid entry.id → ⊥
not_held c entry held at none = none-some held (sym none.unknown ∙ at)

-- numbers of faults, so that two of them differ
abbrev fault_number : Result Adoption LedgerFault → ℕ
fault_number (Err fault.Down) = 1
fault_number (Err fault.Full) = 2
fault_number r = 0

pub adopt_down : (c : Campaign) (entry : LedgerEntry) (result : Result Adoption LedgerFault) (after : Campaign) → AdoptStep c entry result after
    → (IsErrOf result fault.Down ↔ c.up ≡ false)
adopt_down c entry (Ok adoption.Raised) after step = (λ e. absurd (omega (arith, ap fault_number e)), λ down. absurd (true≢false (sym step.1.is_up ∙ down)))
adopt_down c entry (Ok adoption.Held) after step = (λ e. absurd (omega (arith, ap fault_number e)), λ down. absurd (true≢false (sym step.0 ∙ down)))
adopt_down c entry (Ok (adoption.Behind counter)) after step = (λ e. absurd (omega (arith, ap fault_number e)), λ down. absurd (true≢false (sym step.0 ∙ down)))
adopt_down c entry (Err fault.Down) after step = (λ e. step.0, λ down. refl)
adopt_down c entry (Err fault.Full) after step = (λ e. absurd (omega (arith, ap fault_number e)), λ down. absurd (true≢false (sym step.0 ∙ down)))
adopt_down c entry (Err fault.Faulted) after step = (λ e. absurd (omega (arith, ap fault_number e)), λ down. absurd (true≢false (sym step.1.is_up ∙ down)))
adopt_down c entry (Err _) after step = absurd step.1

pub adopt_full : (c : Campaign) (entry : LedgerEntry) (result : Result Adoption LedgerFault) (after : Campaign) → AdoptStep c entry result after
    → (IsErrOf result fault.Full ↔ (c.up ≡ true) × HasNoPlace c.entries entry.uid entry.id)
adopt_full c entry (Ok adoption.Raised) after step = (λ e. absurd (omega (arith, ap fault_number e)), λ full. absurd (not_put c entry step.0 step.1 full.1))
adopt_full c entry (Ok adoption.Held) after step = (λ e. absurd (omega (arith, ap fault_number e)), λ full. absurd (not_held c entry step.1.0 step.1.1 full.1))
adopt_full c entry (Ok (adoption.Behind counter)) after step = (λ e. absurd (omega (arith, ap fault_number e)), λ full. absurd (not_held c entry step.1.0 step.1.1 full.1))
adopt_full c entry (Err fault.Full) after step = (λ e. (step.0, step.1), λ full. refl)
adopt_full c entry (Err fault.Down) after step = (λ e. absurd (omega (arith, ap fault_number e)), λ full. absurd (true≢false (sym full.0 ∙ step.0)))
adopt_full c entry (Err fault.Faulted) after step = (λ e. absurd (omega (arith, ap fault_number e)), λ full. absurd (not_put c entry step.0 step.1 full.1))
adopt_full c entry (Err _) after step = absurd step.1
