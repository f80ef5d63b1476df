-- A step keeps a ledger sound
use Rattle.std.specs.Prelude.{◌≡◌, ℕ, ◌+◌, ◌≤◌, ◌&&◌, nat_le, Bool, true, false, Some, IfSome, List, [], ◌∷◌}
use Rattle.std.proofs.Common.{refl, sym, ap, subst, ◌∙◌, arith, true≢false, inl, inr}
use Rattle.std.proofs.lemmas.Bool.Decides.{nat_tests}
use Rattle.std.proofs.lemmas.List.{length-set}
use Rattle.key_slots.specs.Authority.{pairs, is_pair}
use Rattle.key_slots.proofs.CallerLemmas.{is_pair_listed, passes_at}
use Rattle.machine_runs.specs.Run.{Run}
use Rattle.key_campaign.specs.declared.commands.Issue.{Issue}
use Rattle.key_campaign.specs.declared.commands.Confirm.{Confirm}
use Rattle.key_campaign.specs.declared.commands.LedgerCommand.{LedgerCommand}
use Rattle.key_campaign.specs.declared.commands.LedgerCommand.TheVariants as command
use Rattle.key_campaign.specs.declared.entries.LedgerEntry.{LedgerEntry}
use Rattle.key_campaign.specs.declared.entries.PendingEntry.{PendingEntry}
use Rattle.key_campaign.specs.declared.lines.LedgerLine.{LedgerLine}
use Rattle.key_campaign.specs.Entries.{IsEntry, place_for, entry_for, entry_counter, last_issued, AreLedgerEntries, with_change, Advances}
use Rattle.key_campaign.specs.Campaign.{Campaign, powered_ledger, changed_ledger, failed_change, stays_off, SoundLedger}
use Rattle.key_campaign.specs.Steps.{MakesIssue, MakesConfirm, MakesEntry, PowersLedger, LedgerStep}
use Rattle.key_campaign.specs.Claims.{LedgerMoment}
use Rattle.key_campaign.proofs.EntryPlaces.{found_of}
use Rattle.key_campaign.proofs.Changes.{AreLedgerEntries-change}
use Rattle.key_campaign.proofs.Effects.{effect_of, stays, made, failed, powers, off}

-- ---- the slots of a pair

target_fits : (target : ℕ) → nat_le 1 target && nat_le target 13 ≡ true → (1 ≤ target) × (target ≤ 13)
target_fits target e = grind (arith, nat_tests)

pub target_of_pair : (target auth : ℕ) → is_pair target auth ≡ true → (1 ≤ target) × (target ≤ 13)
target_of_pair target auth e =
    let c = is_pair_listed target auth e in
    let fits : ℕ × ℕ → Bool = λ p. nat_le 1 p.0 && nat_le p.0 13 in
    target_fits target (ap fits (sym c.2) ∙ passes_at fits pairs c.0 (target, auth) c.1 refl)

-- ---- a change that is made moves the ledger forward

advances_issue : (c : Campaign) (i : Issue) (change : PendingEntry) → MakesIssue c i change → Advances c.entries change
advances_issue c i change makes =
    let e : LedgerEntry = record { uid = i.uid; id = i.id; counter = last_issued i.uid i.id c.entries + 1; confirmed = false } in
    let slot = target_of_pair i.id i.auth makes.pair in
    let all : Advances c.entries (record { place = change.place; entry = e }) = record {
      takes = makes.takes;
      is_entry = record {
        is_unit = makes.is_unit;
        id_from_1 = slot.0;
        id_to_13 = slot.1;
        counter_from_1 = omega arith;
        counter_fits = omega (arith, makes.below);
      };
      forward = omega arith;
    } in
    subst (λ (x : LedgerEntry). Advances c.entries (record { place = change.place; entry = x })) (sym makes.entry_is) all

advances_confirm : (c : Campaign) (k : Confirm) (change : PendingEntry) → AreLedgerEntries c.entries → MakesConfirm c k change → Advances c.entries change
advances_confirm c k change all makes =
    let e : LedgerEntry = makes.entry in
    let found = found_of k.uid k.id c.entries e makes.found in
    let is : IsEntry e = all.are (place_for k.uid k.id c.entries) e makes.found in
    let first : place_for e.uid e.id c.entries ≡ place_for k.uid k.id c.entries = all.once (place_for k.uid k.id c.entries) e makes.found in
    let old : entry_for e.uid e.id c.entries ≡ Some e = subst (λ u. entry_for u e.id c.entries ≡ Some e) (sym found.1) (subst (λ j. entry_for k.uid j c.entries ≡ Some e) (sym found.2) makes.found) in
    let it : Advances c.entries (record { place = change.place; entry = record e { confirmed = true } }) = record {
      takes = (omega (arith, makes.place_is, found.0), inl (makes.place_is ∙ sym first));
      is_entry = record {
        is_unit = is.is_unit;
        id_from_1 = is.id_from_1;
        id_to_13 = is.id_to_13;
        counter_from_1 = is.counter_from_1;
        counter_fits = is.counter_fits;
      };
      forward = omega (arith, ap entry_counter old);
    } in
    subst (λ (x : LedgerEntry). Advances c.entries (record { place = change.place; entry = x })) (sym makes.entry_is) it

pub advances_made : (c : Campaign) (cmd : LedgerCommand) (change : PendingEntry) → SoundLedger c → MakesEntry c cmd change → Advances c.entries change
advances_made c (command.Issue i) change sound makes = advances_issue c i change makes
advances_made c (command.Confirm k) change sound makes = advances_confirm c k change sound.entries_are makes
advances_made c (command.Show uid id) change sound makes = absurd makes
advances_made c (command.Cut torn) change sound makes = absurd makes
advances_made c (command.Stop calls) change sound makes = absurd makes
advances_made c (command.Fail calls) change sound makes = absurd makes

-- it is made only while the ledger is up
pub up_made : (c : Campaign) (cmd : LedgerCommand) (change : PendingEntry) → MakesEntry c cmd change → c.up ≡ true
up_made c (command.Issue i) change makes = makes.is_up
up_made c (command.Confirm k) change makes = makes.is_up
up_made c (command.Show uid id) change makes = absurd makes
up_made c (command.Cut torn) change makes = absurd makes
up_made c (command.Stop calls) change makes = absurd makes
up_made c (command.Fail calls) change makes = absurd makes

pub pending_advances : (c : Campaign) (change : PendingEntry) → SoundLedger c → c.pending ≡ Some change → Advances c.entries change
pending_advances c change sound at = subst (λ o. IfSome o (Advances c.entries)) at sound.advances

-- ---- sound after a step

module _ (c : Campaign) (sound : SoundLedger c) where
  pub sound_made : (change : PendingEntry) → c.up ≡ true → Advances c.entries change → SoundLedger (changed_ledger change c)
  sound_made change up advances = record {
    count = length-set c.entries change.place (Some change.entry) ∙ sound.count;
    entries_are = AreLedgerEntries-change c.entries change advances sound.entries_are;
    settled = sound.settled;
    advances = subst (λ o. IfSome o (Advances (with_change change c.entries))) (sym (sound.settled up)) tt;
  }

  pub sound_failed : (change : PendingEntry) → Advances c.entries change → SoundLedger (failed_change change c)
  sound_failed change advances = record {
    count = sound.count;
    entries_are = sound.entries_are;
    settled = λ up. absurd (true≢false (sym up));
    advances = advances;
  }

  pub sound_powered : SoundLedger (powered_ledger c.entries)
  sound_powered = record { count = sound.count; entries_are = sound.entries_are; settled = λ up. refl; advances = tt }

  pub sound_changed : (change : PendingEntry) → Advances c.entries change → SoundLedger (powered_ledger (with_change change c.entries))
  sound_changed change advances = record {
    count = length-set c.entries change.place (Some change.entry) ∙ sound.count;
    entries_are = AreLedgerEntries-change c.entries change advances sound.entries_are;
    settled = λ up. refl;
    advances = tt;
  }

  pub sound_off : SoundLedger (stays_off c)
  sound_off = record {
    count = sound.count;
    entries_are = sound.entries_are;
    settled = λ up. absurd (true≢false (sym up));
    advances = sound.advances;
  }

  pub sound_power : (after : Campaign) → PowersLedger c after → SoundLedger after
  sound_power after step = elim step [
    | inl same ↦ subst SoundLedger (sym same) sound_powered
    | inr changed ↦ subst SoundLedger (sym changed.2) (sound_changed changed.0 (pending_advances c changed.0 sound changed.1))
  ]

pub Sound-step : (c : Campaign) (cmd : LedgerCommand) (told : LedgerLine) (after : Campaign) → SoundLedger c → LedgerStep c cmd told after → SoundLedger after
Sound-step c cmd told after sound step = elim (effect_of c cmd told after step) [
  | stays same ↦ subst SoundLedger (sym same) sound
  | made change makes is ↦ subst SoundLedger (sym is) (sound_made c sound change (up_made c cmd change makes) (advances_made c cmd change sound makes))
  | failed change makes is ↦ subst SoundLedger (sym is) (sound_failed c sound change (advances_made c cmd change sound makes))
  | powers power ↦ sound_power c sound after power
  | off is ↦ subst SoundLedger (sym is) (sound_off c sound)
]

pub Sound-run : (start : Campaign) (ms : List LedgerMoment) (last : Campaign) → SoundLedger start → Run LedgerStep start ms last → SoundLedger last
Sound-run start [] last sound run = subst SoundLedger (sym run) sound
Sound-run start (m ∷ ms) last sound run = Sound-run m.after ms last (Sound-step start m.command m.line m.after sound run.0) run.1
