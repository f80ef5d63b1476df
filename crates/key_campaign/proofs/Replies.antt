-- What an entry that is confirmed tells
use Rattle.std.specs.Prelude.{◌≡◌, ◌⊎◌, ℕ, suc, true, Option, None, Some, List, [], ◌∷◌, Any}
use Rattle.std.proofs.Common.{refl, sym, ap, subst, ◌∙◌, arith, inl, inr, true≢false}
use Rattle.std.proofs.lemmas.Option.{same_Some, none-some}
use Rattle.machine_runs.specs.Run.{Run}
use Rattle.key_campaign.specs.declared.commands.LedgerCommand.{LedgerCommand}
use Rattle.key_campaign.specs.declared.commands.LedgerCommand.TheVariants as command
use Rattle.key_campaign.specs.declared.entries.LedgerEntry.{LedgerEntry}
use Rattle.key_campaign.specs.declared.entries.PendingEntry.{PendingEntry}
use Rattle.key_campaign.specs.declared.lines.LedgerLine.{LedgerLine}
use Rattle.key_campaign.specs.Entries.{entry_for, with_change, Advances}
use Rattle.key_campaign.specs.Campaign.{Campaign, SoundLedger}
use Rattle.key_campaign.specs.Steps.{ConfirmsWith, MakesEntry, LedgerStep}
use Rattle.key_campaign.specs.Claims.{LedgerMoment, CarriesReply, ConfirmedByReply}
use Rattle.key_campaign.proofs.EntryPlaces.{found_of}
use Rattle.key_campaign.proofs.Changes.{entry_after}
use Rattle.key_campaign.proofs.Effects.{effect_of, stays, made, failed, powers, off}
use Rattle.key_campaign.proofs.SoundSteps.{advances_made, pending_advances, Sound-step}

-- the command carries a reply for this entry
abbrev pub CarriesFor : LedgerEntry → LedgerMoment → Type 0
CarriesFor e m = CarriesReply e.uid e.id e.counter m.command

here : (e : LedgerEntry) (m : LedgerMoment) (ms : List LedgerMoment) → CarriesFor e m → Any (CarriesFor e) (m ∷ ms)
here e m ms carries = (0, m, omega arith, refl, carries)

later : (e : LedgerEntry) (m : LedgerMoment) (ms : List LedgerMoment) → Any (CarriesFor e) ms → Any (CarriesFor e) (m ∷ ms)
later e m ms any = (suc any.0, any.1, omega (arith, any.2), any.3, any.4)

-- a command that makes an entry confirmed carries a reply for it
carries_made : (c : Campaign) (cmd : LedgerCommand) (change : PendingEntry) → MakesEntry c cmd change → change.entry.confirmed ≡ true
    → CarriesReply change.entry.uid change.entry.id change.entry.counter cmd
carries_made c (command.Issue i) change makes confirmed = absurd (true≢false (sym confirmed ∙ ap (λ (x : LedgerEntry). x.confirmed) makes.entry_is))
carries_made c (command.Confirm k) change makes confirmed =
    let found = found_of k.uid k.id c.entries makes.entry makes.found in (
      sym found.1 ∙ sym (ap (λ (x : LedgerEntry). x.uid) makes.entry_is),
      sym found.2 ∙ sym (ap (λ (x : LedgerEntry). x.id) makes.entry_is),
      subst (ConfirmsWith k) (sym (ap (λ (x : LedgerEntry). x.counter) makes.entry_is)) makes.confirms,
    )
carries_made c (command.Show uid id) change makes confirmed = absurd makes
carries_made c (command.Cut torn) change makes confirmed = absurd makes
carries_made c (command.Stop calls) change makes confirmed = absurd makes
carries_made c (command.Fail calls) change makes confirmed = absurd makes

carries_entry : (c : Campaign) (cmd : LedgerCommand) (change : PendingEntry) (e : LedgerEntry) → MakesEntry c cmd change → change.entry ≡ e → e.confirmed ≡ true
    → CarriesReply e.uid e.id e.counter cmd
carries_entry c cmd change e makes same confirmed =
    subst (λ (x : LedgerEntry). CarriesReply x.uid x.id x.counter cmd) same
    (carries_made c cmd change makes (ap (λ (x : LedgerEntry). x.confirmed) same ∙ confirmed))

-- ---- where an entry stands: in its place, or in the pending change

abbrev pub IsPending : Campaign → LedgerEntry → Type 0
IsPending c e = (change : PendingEntry) × (c.pending ≡ Some change) × (change.entry ≡ e)

abbrev pub StandsIn : List ℕ → ℕ → Campaign → LedgerEntry → Type 0
StandsIn uid id c e = (entry_for uid id c.entries ≡ Some e) ⊎ IsPending c e

-- after a change an entry of a unit and slot is the change's, or was there
changed_entry : (entries after : List (Option LedgerEntry)) (change : PendingEntry) (uid : List ℕ) (id : ℕ) (e : LedgerEntry) → Advances entries change
    → after ≡ with_change change entries → entry_for uid id after ≡ Some e → (change.entry ≡ e) ⊎ (entry_for uid id entries ≡ Some e)
changed_entry entries after change uid id e advances is at = elim (entry_after entries change.place change.entry advances.takes uid id) [
  | inl own ↦ inl (same_Some change.entry e (sym own.2 ∙ sym (ap (entry_for uid id) is) ∙ at))
  | inr same ↦ inr (sym same ∙ sym (ap (entry_for uid id) is) ∙ at)
]

entries_are : (c after : Campaign) → after ≡ c → after.entries ≡ c.entries
entries_are c after same = ap (λ (s : Campaign). s.entries) same

pending_is : (c after : Campaign) → after ≡ c → after.pending ≡ c.pending
pending_is c after same = ap (λ (s : Campaign). s.pending) same

module _ (c : Campaign) (cmd : LedgerCommand) (told : LedgerLine) (after : Campaign) (sound : SoundLedger c) (step : LedgerStep c cmd told after) (uid : List ℕ) (id : ℕ) (e : LedgerEntry) (confirmed : e.confirmed ≡ true) where
  abbrev Before : Type 0
  Before = StandsIn uid id c e ⊎ CarriesReply e.uid e.id e.counter cmd

  was_there : after.entries ≡ c.entries → entry_for uid id after.entries ≡ Some e → Before
  was_there same at = inl (inl (sym (ap (entry_for uid id) same) ∙ at))

  was_pending : after.pending ≡ c.pending → IsPending after e → Before
  was_pending same at = inl (inr (at.0, sym same ∙ at.1, at.2))

  entry_before : entry_for uid id after.entries ≡ Some e → Before
  entry_before at = elim (effect_of c cmd told after step) [
    | stays same ↦ was_there (entries_are c after same) at
    | made change makes is ↦
        elim (changed_entry c.entries after.entries change uid id e (advances_made c cmd change sound makes) (ap (λ (s : Campaign). s.entries) is) at) [
          | inl own ↦ inr (carries_entry c cmd change e makes own confirmed)
          | inr old ↦ inl (inl old)
        ]
    | failed change makes is ↦ was_there (ap (λ (s : Campaign). s.entries) is) at
    | powers power ↦ elim power [
      | inl same ↦ was_there (ap (λ (s : Campaign). s.entries) same) at
      | inr changed ↦
          elim (changed_entry c.entries after.entries changed.0 uid id e (pending_advances c changed.0 sound changed.1) (ap (λ (s : Campaign). s.entries) changed.2) at) [
            | inl own ↦ inl (inr (changed.0, changed.1, own))
            | inr old ↦ inl (inl old)
          ]
    ]
    | off is ↦ was_there (ap (λ (s : Campaign). s.entries) is) at
  ]

  pending_before : IsPending after e → Before
  pending_before at = elim (effect_of c cmd told after step) [
    | stays same ↦ was_pending (pending_is c after same) at
    | made change makes is ↦ was_pending (ap (λ (s : Campaign). s.pending) is) at
    | failed change makes is ↦
        let own : change ≡ at.0 = same_Some change at.0 (sym (ap (λ (s : Campaign). s.pending) is) ∙ at.1) in
        inr (carries_entry c cmd change e makes (ap (λ (x : PendingEntry). x.entry) own ∙ at.2) confirmed)
    | powers power ↦ absurd (elim power [
      | inl same ↦ none-some at.0 (sym (ap (λ (s : Campaign). s.pending) same) ∙ at.1)
      | inr changed ↦ none-some at.0 (sym (ap (λ (s : Campaign). s.pending) changed.2) ∙ at.1)
    ])
    | off is ↦ was_pending (ap (λ (s : Campaign). s.pending) is) at
  ]

  before : StandsIn uid id after e → Before
  before (inl at) = entry_before at
  before (inr at) = pending_before at

confirmed_from : (start : Campaign) (ms : List LedgerMoment) (last : Campaign) (uid : List ℕ) (id : ℕ) (e : LedgerEntry) → SoundLedger start → Run LedgerStep start ms last
    → entry_for uid id last.entries ≡ Some e → e.confirmed ≡ true → StandsIn uid id start e ⊎ Any (CarriesFor e) ms
confirmed_from start [] last uid id e sound run at confirmed = inl (inl (sym (ap (λ (s : Campaign). entry_for uid id s.entries) run) ∙ at))
confirmed_from start (m ∷ ms) last uid id e sound run at confirmed =
    elim (confirmed_from m.after ms last uid id e (Sound-step start m.command m.line m.after sound run.0) run.1 at confirmed) [
      | inr any ↦ inr (later e m ms any)
      | inl stands ↦ elim (before start m.command m.line m.after sound run.0 uid id e confirmed stands) [
        | inl old ↦ inl old
        | inr carries ↦ inr (here e m ms carries)
      ]
    ]

pub ConfirmedByReply-run : (start : Campaign) (ms : List LedgerMoment) (last : Campaign) → SoundLedger start → start.pending ≡ None → Run LedgerStep start ms last → ConfirmedByReply start ms last
ConfirmedByReply-run start ms last sound calm run uid id e at confirmed =
    let found = found_of uid id last.entries e at in
    elim (confirmed_from start ms last uid id e sound run at confirmed) [
      | inl stands ↦ elim stands [
        | inl old ↦ inl old
        | inr change ↦ absurd (none-some change.0 (sym calm ∙ change.1))
      ]
      | inr any ↦ inr (subst (λ u. Any (λ (m : LedgerMoment). CarriesReply u id e.counter m.command) ms) found.1
          (subst (λ j. Any (λ (m : LedgerMoment). CarriesReply e.uid j e.counter m.command) ms) found.2 any))
    ]
