-- How many counters a run skips
use Rattle.std.specs.Prelude.{◌≡◌, ℕ, ◌+◌, ◌≤◌, Bool, true, false, cond, Option, None, Some, List, [], ◌∷◌, ◌++◌, unwrap_or}
use Rattle.std.proofs.Common.{refl, sym, ap, subst, ◌∙◌, arith, inl, inr, true≢false}
use Rattle.std.proofs.lemmas.Option.{same_Some, none-some}
use Rattle.machine_runs.specs.Run.{Run}
use Rattle.key_campaign.specs.declared.commands.Issue.{Issue}
use Rattle.key_campaign.specs.declared.commands.Confirm.{Confirm}
use Rattle.key_campaign.specs.declared.commands.LedgerCommand.{LedgerCommand}
use Rattle.key_campaign.specs.declared.commands.LedgerCommand.TheVariants as command
use Rattle.key_campaign.specs.declared.entries.LedgerEntry.{LedgerEntry}
use Rattle.key_campaign.specs.declared.entries.PendingEntry.{PendingEntry}
use Rattle.key_campaign.specs.declared.lines.LedgerLine.{LedgerLine}
use Rattle.key_campaign.specs.declared.lines.LedgerLine.TheVariants as line
use Rattle.key_campaign.specs.declared.lines.LedgerRefusal.TheVariants as refusal
use Rattle.key_campaign.specs.Entries.{same_slot, last_issued, entry_counter, with_change, Advances}
use Rattle.key_campaign.specs.Campaign.{Campaign, changed_ledger, failed_change, SoundLedger}
use Rattle.key_campaign.specs.Steps.{MakesIssue, MakesConfirm, MakesEntry, PowersLedger, LedgerStep}
use Rattle.key_campaign.specs.Claims.{LedgerMoment, issued_for, failed_for, issued_before, failures_after, failed_since, FewAreSkipped}
use Rattle.key_campaign.proofs.EntryPlaces.{same_slot_self, found_of}
use Rattle.key_campaign.proofs.Changes.{entry_after}
use Rattle.key_campaign.proofs.SoundSteps.{advances_made, up_made, pending_advances, Sound-step}
use Rattle.key_campaign.proofs.Rising.{issued_now}

-- a pending change of this unit and slot has at most this counter
abbrev pub PendingAtMost : List ℕ → ℕ → ℕ → Option PendingEntry → Type 0
PendingAtMost uid id most pending = (change : PendingEntry) → pending ≡ Some change → change.entry.uid ≡ uid → change.entry.id ≡ id → change.entry.counter ≤ most

-- the last counter of this unit and slot, and a pending one, are at most this
pub record WithinMost (uid : List ℕ) (id most : ℕ) (c : Campaign) : Type 0 where
  pub now : last_issued uid id c.entries ≤ most
  pub pending : PendingAtMost uid id most c.pending

none_within : (uid : List ℕ) (id most : ℕ) (pending : Option PendingEntry) → pending ≡ None → PendingAtMost uid id most pending
none_within uid id most pending none = λ change at u i. absurd (none-some change (sym none ∙ at))

-- a change of another unit or slot leaves the last counter, and one of this makes it the change's
change_within : (entries : List (Option LedgerEntry)) (change : PendingEntry) (uid : List ℕ) (id most : ℕ) → Advances entries change → last_issued uid id entries ≤ most
    → (change.entry.uid ≡ uid → change.entry.id ≡ id → change.entry.counter ≤ most) → last_issued uid id (with_change change entries) ≤ most
change_within entries change uid id most advances now own = elim (entry_after entries change.place change.entry advances.takes uid id) [
  | inl mine ↦ omega (arith, ap entry_counter mine.2, own mine.0 mine.1)
  | inr same ↦ omega (arith, ap entry_counter same, now)
]

-- ---- the counter of a change that is made

confirm_counter : (c : Campaign) (k : Confirm) (change : PendingEntry) (uid : List ℕ) (id : ℕ) → MakesConfirm c k change → change.entry.uid ≡ uid → change.entry.id ≡ id
    → change.entry.counter ≡ last_issued uid id c.entries
confirm_counter c k change uid id makes u i =
    let e : LedgerEntry = makes.entry in
    let found = found_of k.uid k.id c.entries e makes.found in
    let same_uid : k.uid ≡ uid = sym found.1 ∙ sym (ap (λ (x : LedgerEntry). x.uid) makes.entry_is) ∙ u in
    let same_id : k.id ≡ id = sym found.2 ∙ sym (ap (λ (x : LedgerEntry). x.id) makes.entry_is) ∙ i in
    ap (λ (x : LedgerEntry). x.counter) makes.entry_is ∙ sym (ap entry_counter makes.found)
    ∙ ap (λ v. last_issued v k.id c.entries) same_uid ∙ ap (λ j. last_issued uid j c.entries) same_id

issue_counter : (c : Campaign) (i : Issue) (change : PendingEntry) (uid : List ℕ) (id : ℕ) → MakesIssue c i change → change.entry.uid ≡ uid → change.entry.id ≡ id
    → (same_slot uid id i.uid i.id ≡ true) × (change.entry.counter ≡ last_issued uid id c.entries + 1)
issue_counter c i change uid id makes u j =
    let same_uid : i.uid ≡ uid = sym (ap (λ (x : LedgerEntry). x.uid) makes.entry_is) ∙ u in
    let same_id : i.id ≡ id = sym (ap (λ (x : LedgerEntry). x.id) makes.entry_is) ∙ j in (
      ap (λ v. same_slot uid id v i.id) same_uid ∙ ap (λ n. same_slot uid id uid n) same_id ∙ same_slot_self uid id,
      ap (λ (x : LedgerEntry). x.counter) makes.entry_is ∙ ap (λ v. last_issued v i.id c.entries + 1) same_uid ∙ ap (λ n. last_issued uid n c.entries + 1) same_id,
    )

-- ---- a step

-- the most after a step: what was issued, or one more if an issue failed
abbrev pub most_after : Option ℕ → Bool → ℕ → ℕ
most_after None failed most = cond failed 1 0 + most
most_after (Some counter) failed most = counter

same_within : (uid : List ℕ) (id most : ℕ) (c after : Campaign) → WithinMost uid id most c → after.entries ≡ c.entries → after.pending ≡ c.pending → WithinMost uid id (0 + most) after
same_within uid id most c after within entries pending = record {
  now = omega (arith, ap (last_issued uid id) entries, within.now);
  pending = λ change at u i. let old = within.pending change (sym pending ∙ at) u i in omega (arith, old);
}

stays_within : (uid : List ℕ) (id most : ℕ) (c after : Campaign) → WithinMost uid id most c → after ≡ c → WithinMost uid id (0 + most) after
stays_within uid id most c after within same =
    same_within uid id most c after within (ap (λ (s : Campaign). s.entries) same) (ap (λ (s : Campaign). s.pending) same)

-- a change was made that is of another unit or slot, or has the last counter
made_within : (uid : List ℕ) (id most : ℕ) (c after : Campaign) (cmd : LedgerCommand) (change : PendingEntry) → SoundLedger c → MakesEntry c cmd change → WithinMost uid id most c
    → after ≡ changed_ledger change c → (change.entry.uid ≡ uid → change.entry.id ≡ id → change.entry.counter ≤ most) → WithinMost uid id (0 + most) after
made_within uid id most c after cmd change sound makes within is own =
    let now = change_within c.entries change uid id most (advances_made c cmd change sound makes) within.now own in
    record {
      now = omega (arith, ap (λ (s : Campaign). last_issued uid id s.entries) is, now);
      pending = none_within uid id (0 + most) after.pending (ap (λ (s : Campaign). s.pending) is ∙ sound.settled (up_made c cmd change makes));
    }

issued_within : (uid : List ℕ) (id most v : ℕ) (c after : Campaign) (i : Issue) (change : PendingEntry) → SoundLedger c → MakesIssue c i change → v ≡ last_issued i.uid i.id c.entries + 1
    → WithinMost uid id most c → after ≡ changed_ledger change c → (b : Bool) → same_slot uid id i.uid i.id ≡ b
    → (b ≡ true → last_issued uid id after.entries ≡ v) → WithinMost uid id (most_after (cond b (Some v) None) false most) after
issued_within uid id most v c after i change sound makes next within is true same own = record {
  now = omega (arith, own refl);
  pending = none_within uid id v after.pending (ap (λ (s : Campaign). s.pending) is ∙ sound.settled makes.is_up);
}
issued_within uid id most v c after i change sound makes next within is false other own =
    made_within uid id most c after (command.Issue i) change sound makes within is
    (λ u j. absurd (true≢false (sym (issue_counter c i change uid id makes u j).0 ∙ other)))

failed_within : (uid : List ℕ) (id most : ℕ) (c after : Campaign) (change : PendingEntry) (b : Bool) → WithinMost uid id most c → after ≡ failed_change change c
    → (change.entry.uid ≡ uid → change.entry.id ≡ id → change.entry.counter ≤ cond b 1 0 + most) → WithinMost uid id (cond b 1 0 + most) after
failed_within uid id most c after change b within is own = record {
  now = omega (arith, ap (λ (s : Campaign). last_issued uid id s.entries) is, within.now);
  pending = λ other at u j.
      let same : change ≡ other = same_Some change other (sym (ap (λ (s : Campaign). s.pending) is) ∙ at) in
      subst (λ (x : PendingEntry). x.entry.counter ≤ cond b 1 0 + most) same
      (own (ap (λ (x : PendingEntry). x.entry.uid) same ∙ u) (ap (λ (x : PendingEntry). x.entry.id) same ∙ j));
}

failed_issue : (uid : List ℕ) (id most : ℕ) (c after : Campaign) (i : Issue) (change : PendingEntry) → MakesIssue c i change → WithinMost uid id most c → after ≡ failed_change change c
    → (b : Bool) → same_slot uid id i.uid i.id ≡ b → WithinMost uid id (cond b 1 0 + most) after
failed_issue uid id most c after i change makes within is true same =
    failed_within uid id most c after change true within is
    (λ u j. omega (arith, (issue_counter c i change uid id makes u j).1, within.now))
failed_issue uid id most c after i change makes within is false other =
    failed_within uid id most c after change false within is
    (λ u j. absurd (true≢false (sym (issue_counter c i change uid id makes u j).0 ∙ other)))

power_within : (uid : List ℕ) (id most : ℕ) (c after : Campaign) → SoundLedger c → WithinMost uid id most c → PowersLedger c after → WithinMost uid id (0 + most) after
power_within uid id most c after sound within power = record {
  now = elim power [
    | inl same ↦ omega (arith, ap (λ (s : Campaign). last_issued uid id s.entries) same, within.now)
    | inr changed ↦
        let now = change_within c.entries changed.0 uid id most (pending_advances c changed.0 sound changed.1) within.now (within.pending changed.0 changed.1) in
        omega (arith, ap (λ (s : Campaign). last_issued uid id s.entries) changed.2, now)
  ];
  pending = none_within uid id (0 + most) after.pending (elim power [
    | inl same ↦ ap (λ (s : Campaign). s.pending) same
    | inr changed ↦ ap (λ (s : Campaign). s.pending) changed.2
  ]);
}

within_step : (uid : List ℕ) (id most : ℕ) (c : Campaign) (cmd : LedgerCommand) (told : LedgerLine) (after : Campaign) → SoundLedger c → LedgerStep c cmd told after
    → WithinMost uid id most c → WithinMost uid id (most_after (issued_for uid id cmd told) (failed_for uid id cmd told) most) after
within_step uid id most c (command.Issue i) (line.Issued v request) after sound step within =
    issued_within uid id most v c after i step.change sound step.makes step.counter_is within step.after_is (same_slot uid id i.uid i.id) refl
    (λ same. (issued_now c (command.Issue i) (line.Issued v request) after uid id v step (ap (λ b. cond b (Some v) None) same)).last)
within_step uid id most c (command.Issue i) (line.Refused refusal.MemoryFailure) after sound step within =
    failed_issue uid id most c after i step.0 step.1 within step.2 (same_slot uid id i.uid i.id) refl
within_step uid id most c (command.Issue i) (line.Refused why) after sound step within = stays_within uid id most c after within step.1
within_step uid id most c (command.Confirm k) (line.Confirmed counter) after sound step within =
    made_within uid id most c after (command.Confirm k) step.change sound step.makes within step.after_is
    (λ u j. omega (arith, confirm_counter c k step.change uid id step.makes u j, within.now))
within_step uid id most c (command.Confirm k) (line.Refused refusal.MemoryFailure) after sound step within =
    failed_within uid id most c after step.0 false within step.2 (λ u j. omega (arith, confirm_counter c k step.0 uid id step.1 u j, within.now))
within_step uid id most c (command.Confirm k) (line.Refused why) after sound step within = stays_within uid id most c after within step.1
within_step uid id most c (command.Show u j) (line.Shown told) after sound step within = stays_within uid id most c after within step.1
within_step uid id most c (command.Cut torn) line.Up after sound step within = power_within uid id most c after sound within step
within_step uid id most c (command.Cut torn) (line.Refused refusal.MemoryFailure) after sound step within =
    same_within uid id most c after within (ap (λ (s : Campaign). s.entries) step) (ap (λ (s : Campaign). s.pending) step)
within_step uid id most c (command.Stop calls) line.Armed after sound step within = stays_within uid id most c after within step
within_step uid id most c (command.Fail calls) line.Armed after sound step within = stays_within uid id most c after within step
within_step uid id most c _ _ after sound step within = absurd step

-- ---- of a run

-- what was issued last and the failures since, after one more moment, are the most after it
sum_after : (o : Option ℕ) (failed : Bool) (first so_far : ℕ) → most_after o failed (first + so_far) ≡ unwrap_or o first + failures_after o failed so_far
sum_after None failed first so_far = omega arith
sum_after (Some counter) failed first so_far = omega arith

few : (uid : List ℕ) (id first so_far counter : ℕ) (start : Campaign) (done : List LedgerMoment) (m : LedgerMoment) (rest : List LedgerMoment) (last : Campaign) → SoundLedger start
    → Run LedgerStep start (done ++ m ∷ rest) last → WithinMost uid id (first + so_far) start → issued_for uid id m.command m.line ≡ Some counter
    → counter ≤ issued_before uid id first done + 1 + failed_since uid id so_far done
few uid id first so_far counter start [] m rest last sound run within is =
    omega (arith, (issued_now start m.command m.line m.after uid id counter run.0 is).next, within.now)
few uid id first so_far counter start (n ∷ done) m rest last sound run within is =
    let o : Option ℕ = issued_for uid id n.command n.line in
    let b : Bool = failed_for uid id n.command n.line in
    let next = within_step uid id (first + so_far) start n.command n.line n.after sound run.0 within in
    few uid id (unwrap_or o first) (failures_after o b so_far) counter n.after done m rest last
    (Sound-step start n.command n.line n.after sound run.0) run.1
    (subst (λ most. WithinMost uid id most n.after) (sum_after o b first so_far) next) is

pub FewAreSkipped-run : (start : Campaign) (ms : List LedgerMoment) (last : Campaign) → SoundLedger start → start.pending ≡ None → Run LedgerStep start ms last → FewAreSkipped start ms
FewAreSkipped-run start ms last sound calm run done rest m uid id counter all is =
    few uid id (last_issued uid id start.entries) 0 counter start done m rest last sound (subst (λ xs. Run LedgerStep start xs last) all run)
    (record { now = omega arith; pending = none_within uid id (last_issued uid id start.entries + 0) start.pending calm }) is
