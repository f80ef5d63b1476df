-- A command is refused exactly by its cause
use Rattle.std.specs.Prelude.{◌≡◌, ◌≢◌, ◌↔◌, ℕ, Bool, true, false, Option, None, Result, Ok, Err, IsErrOf, List}
use Rattle.std.proofs.Common.{refl, sym, ap, subst, ◌∙◌, arith, inl, inr, true≢false}
use Rattle.memory_update.specs.declared.messages.Request.{Request}
use Rattle.key_campaign.specs.declared.commands.Issue.{Issue}
use Rattle.key_campaign.specs.declared.commands.LedgerCommand.TheVariants as command
use Rattle.key_campaign.specs.declared.entries.LedgerEntry.{LedgerEntry}
use Rattle.key_campaign.specs.declared.entries.PendingEntry.{PendingEntry}
use Rattle.key_campaign.specs.declared.lines.LedgerRefusal.{LedgerRefusal}
use Rattle.key_campaign.specs.declared.lines.LedgerRefusal.TheVariants as refusal
use Rattle.key_campaign.specs.Entries.{entry_for, entry_counter, last_issued, TakesPlace}
use Rattle.key_campaign.specs.Campaign.{Campaign}
use Rattle.key_campaign.specs.Steps.{HasNoPlace, RefusesIssue, MakesIssue, LedgerStep}
use Rattle.key_campaign.proofs.EntryPlaces.{unknown_of}
use Rattle.key_campaign.specs.declared.faults.LedgerFault.{LedgerFault}
use Rattle.key_campaign.specs.declared.faults.LedgerFault.TheVariants as fault
use Rattle.key_campaign.specs.Lines.{ledger_refusal, issued_line}

same_fault : {T : Type 0} (r : Result T LedgerFault) (g f : LedgerFault) → r ≡ Err g → r ≡ Err f → g ≡ f
same_fault r g f e h = cc

not_ok : {T : Type 0} (r : Result T LedgerFault) (x : T) (f : LedgerFault) → r ≡ Ok x → r ≡ Err f → ⊥
not_ok r x f e h = absurd (cc)

abbrev is_faulted : LedgerFault → Bool
is_faulted fault.Faulted = true
is_faulted _ = false

-- ---- an issue

unissued : (uid : List ℕ) (id : ℕ) (entries : List (Option LedgerEntry)) → entry_for uid id entries ≡ None → last_issued uid id entries ≡ 0
unissued uid id entries none = ap entry_counter none

pub place_or_none : (uid : List ℕ) (id : ℕ) (entries : List (Option LedgerEntry)) (place : ℕ) → TakesPlace uid id entries place → HasNoPlace entries uid id → ⊥
place_or_none uid id entries place takes none =
    let unknown = unknown_of uid id entries none.unknown in
    elim takes.1 [
      | inl known ↦ absurd (omega (arith, takes.0, known, unknown))
      | inr new ↦ absurd (omega (arith, takes.0, new.1, none.full))
    ]

module _ (c : Campaign) (i : Issue) where
  made_or_refused : (why : LedgerRefusal) (change : PendingEntry) → MakesIssue c i change → RefusesIssue c i why → ⊥
  made_or_refused refusal.Down change makes r = true≢false (sym makes.is_up ∙ r)
  made_or_refused refusal.BadPair change makes r = true≢false (sym makes.pair ∙ r.1)
  made_or_refused refusal.Full change makes r = place_or_none i.uid i.id c.entries change.place makes.takes r.2
  made_or_refused refusal.Spent change makes r = absurd (omega (arith, makes.below, r.2))
  made_or_refused _ change makes r = r

  one_issue_refusal : (f g : LedgerFault) → RefusesIssue c i (ledger_refusal f) → RefusesIssue c i (ledger_refusal g) → f ≡ g
  one_issue_refusal f g r s = grind (arith, unissued)

  module _ (after : Campaign) where
    -- what a step that isn't Ok tells
    refused_by : (g : LedgerFault) → LedgerStep c (command.Issue i) (issued_line (Err g)) after → g ≢ fault.Faulted → RefusesIssue c i (ledger_refusal g)
    refused_by g step ne = grind arith

    same_refusal : (f g : LedgerFault) → LedgerStep c (command.Issue i) (issued_line (Err g)) after → RefusesIssue c i (ledger_refusal f) → g ≡ f
    same_refusal f fault.Down step r = one_issue_refusal fault.Down f step.0 r
    same_refusal f fault.BadPair step r = one_issue_refusal fault.BadPair f step.0 r
    same_refusal f fault.Full step r = one_issue_refusal fault.Full f step.0 r
    same_refusal f fault.Spent step r = one_issue_refusal fault.Spent f step.0 r
    same_refusal f fault.Faulted step r = absurd (made_or_refused (ledger_refusal f) step.0 step.1 r)
    same_refusal f g step r = absurd step.0

    pub issue_refused : (r : Result (ℕ × Request) LedgerFault) → LedgerStep c (command.Issue i) (issued_line r) after → (f : LedgerFault) → f ≢ fault.Faulted
        → (IsErrOf r f ↔ RefusesIssue c i (ledger_refusal f))
    issue_refused (Ok issued) step f ne = (λ e. absurd (not_ok (Ok issued) issued f refl e), λ refuses. absurd (made_or_refused (ledger_refusal f) step.change step.makes refuses))
    issue_refused (Err g) step f ne = (
      λ e. let same : g ≡ f = same_fault (Err g) g f refl e in
          subst (λ x. RefusesIssue c i (ledger_refusal x)) same (refused_by g step (λ x. ne (sym same ∙ x))),
      λ refuses. ap Err (same_refusal f g step refuses),
    )

module _ (c : Campaign) (i : Issue) (after : Campaign) (r : Result (ℕ × Request) LedgerFault) (step : LedgerStep c (command.Issue i) (issued_line r) after) where
  pub issue_bad_pair : IsErrOf r fault.BadPair ↔ RefusesIssue c i refusal.BadPair
  issue_bad_pair = issue_refused c i after r step fault.BadPair (λ e. true≢false (sym (ap is_faulted e)))

  pub issue_full : IsErrOf r fault.Full ↔ RefusesIssue c i refusal.Full
  issue_full = issue_refused c i after r step fault.Full (λ e. true≢false (sym (ap is_faulted e)))

  pub issue_spent : IsErrOf r fault.Spent ↔ RefusesIssue c i refusal.Spent
  issue_spent = issue_refused c i after r step fault.Spent (λ e. true≢false (sym (ap is_faulted e)))

  pub issue_down : IsErrOf r fault.Down ↔ RefusesIssue c i refusal.Down
  issue_down = issue_refused c i after r step fault.Down (λ e. true≢false (sym (ap is_faulted e)))
