-- The counters of a unit and slot rise, and its entry stays
use Rattle.std.specs.Prelude.{◌≡◌, ℕ, ◌+◌, ◌<◌, ◌≤◌, Bool, true, false, cond, Option, None, Some, List, [], ◌∷◌, All}
use Rattle.std.proofs.Common.{refl, sym, ap, subst, ◌∙◌, arith, inl, inr}
use Rattle.std.proofs.lemmas.List.Elements.{All-nil, All-cons}
use Rattle.std.proofs.lemmas.List.Kept.{AllPairs-cons}
use Rattle.std.proofs.lemmas.Option.{same_Some, none-some}
use Rattle.machine_runs.specs.Run.{Run}
use Rattle.key_campaign.specs.declared.commands.Issue.{Issue}
use Rattle.key_campaign.specs.declared.commands.LedgerCommand.{LedgerCommand}
use Rattle.key_campaign.specs.declared.commands.LedgerCommand.TheVariants as command
use Rattle.key_campaign.specs.declared.entries.LedgerEntry.{LedgerEntry}
use Rattle.key_campaign.specs.declared.entries.PendingEntry.{PendingEntry}
use Rattle.key_campaign.specs.declared.lines.LedgerLine.{LedgerLine}
use Rattle.key_campaign.specs.declared.lines.LedgerLine.TheVariants as line
use Rattle.key_campaign.specs.Entries.{same_slot, entry_for, last_issued, entry_counter, with_change, Advances}
use Rattle.key_campaign.specs.Campaign.{Campaign, SoundLedger}
use Rattle.key_campaign.specs.Steps.{MakesIssue, LedgerStep}
use Rattle.key_campaign.specs.Claims.{LedgerMoment, issued_for, CountersRise, KeepsEntries, NoneGoes}
use Rattle.key_campaign.proofs.EntryPlaces.{same_slot_is}
use Rattle.key_campaign.proofs.Changes.{entry_after, own_entry, last_issued_change}
use Rattle.key_campaign.proofs.Effects.{effect_of, stays, made, failed, powers, off}
use Rattle.key_campaign.proofs.SoundSteps.{advances_made, pending_advances, Sound-step}

-- ---- no step lowers a counter

pub last_issued_step : (c : Campaign) (cmd : LedgerCommand) (told : LedgerLine) (after : Campaign) (uid : List ℕ) (id : ℕ) → SoundLedger c → LedgerStep c cmd told after
    → last_issued uid id c.entries ≤ last_issued uid id after.entries
last_issued_step c cmd told after uid id sound step =
    let At : Campaign → Type 0 = λ s. last_issued uid id c.entries ≤ last_issued uid id s.entries in
    elim (effect_of c cmd told after step) [
      | stays same ↦ subst At (sym same) (omega arith)
      | made change makes is ↦ subst At (sym is) (last_issued_change c.entries change uid id (advances_made c cmd change sound makes))
      | failed change makes is ↦ subst At (sym is) (omega arith)
      | powers power ↦ elim power [
        | inl same ↦ subst At (sym same) (omega arith)
        | inr changed ↦ subst At (sym changed.2) (last_issued_change c.entries changed.0 uid id (pending_advances c changed.0 sound changed.1))
      ]
      | off is ↦ subst At (sym is) (omega arith)
    ]

-- ---- what was issued

-- the counter that was issued is the one above the last, and is then the last
pub record IssuedNow (uid : List ℕ) (id counter : ℕ) (c after : Campaign) : Type 0 where
  pub next : counter ≡ last_issued uid id c.entries + 1
  pub last : last_issued uid id after.entries ≡ counter

chosen : (b : Bool) (x y : ℕ) → cond b (Some x) None ≡ Some y → (b ≡ true) × (x ≡ y)
chosen true x y e = (refl, same_Some x y e)
chosen false x y e = absurd (none-some y e)

issued_own : (c : Campaign) (i : Issue) (counter : ℕ) (after : Campaign) (change : PendingEntry) → MakesIssue c i change → counter ≡ last_issued i.uid i.id c.entries + 1
    → after.entries ≡ with_change change c.entries → IssuedNow i.uid i.id counter c after
issued_own c i counter after change makes next is =
    let e : LedgerEntry = record { uid = i.uid; id = i.id; counter = last_issued i.uid i.id c.entries + 1; confirmed = false } in
    let own : last_issued i.uid i.id (with_change (record { place = change.place; entry = e }) c.entries) ≡ last_issued i.uid i.id c.entries + 1 =
    ap entry_counter (own_entry c.entries change.place e makes.takes) in
    record {
      next = next;
      last = ap (last_issued i.uid i.id) is
          ∙ ap (λ (x : LedgerEntry). last_issued i.uid i.id (with_change (record { place = change.place; entry = x }) c.entries)) makes.entry_is
          ∙ own ∙ sym next;
    }

pub issued_now : (c : Campaign) (cmd : LedgerCommand) (told : LedgerLine) (after : Campaign) (uid : List ℕ) (id counter : ℕ)
    → LedgerStep c cmd told after → issued_for uid id cmd told ≡ Some counter → IssuedNow uid id counter c after
issued_now c (command.Issue i) (line.Issued v request) after uid id counter step e =
    let chose = chosen (same_slot uid id i.uid i.id) v counter e in
    let is = same_slot_is uid id i.uid i.id chose.0 in
    let all = issued_own c i v after step.change step.makes step.counter_is (ap (λ (s : Campaign). s.entries) step.after_is) in
    subst (λ n. IssuedNow uid id n c after) chose.1
    (subst (λ u. IssuedNow u id v c after) is.0 (subst (λ j. IssuedNow i.uid j v c after) is.1 all))
issued_now c (command.Issue i) (line.Confirmed v) after uid id counter step e = absurd step
issued_now c (command.Issue i) (line.Shown told) after uid id counter step e = absurd step
issued_now c (command.Issue i) line.Up after uid id counter step e = absurd step
issued_now c (command.Issue i) line.Armed after uid id counter step e = absurd step
issued_now c (command.Issue i) (line.Refused why) after uid id counter step e = absurd (none-some counter e)
issued_now c (command.Confirm k) told after uid id counter step e = absurd (none-some counter e)
issued_now c (command.Show u j) told after uid id counter step e = absurd (none-some counter e)
issued_now c (command.Cut torn) told after uid id counter step e = absurd (none-some counter e)
issued_now c (command.Stop calls) told after uid id counter step e = absurd (none-some counter e)
issued_now c (command.Fail calls) told after uid id counter step e = absurd (none-some counter e)

-- ---- of a run

-- what is issued later is above the last one now
above : (start : Campaign) (ms : List LedgerMoment) (last : Campaign) (uid : List ℕ) (id : ℕ) → SoundLedger start → Run LedgerStep start ms last
    → All (λ m. (later : ℕ) → issued_for uid id m.command m.line ≡ Some later → last_issued uid id start.entries < later) ms
above start [] last uid id sound run = All-nil _
above start (m ∷ ms) last uid id sound run =
    let After : LedgerMoment → Type 0 = λ n. (later : ℕ) → issued_for uid id n.command n.line ≡ Some later → last_issued uid id m.after.entries < later in
    let Now : LedgerMoment → Type 0 = λ n. (later : ℕ) → issued_for uid id n.command n.line ≡ Some later → last_issued uid id start.entries < later in
    let rest : All After ms = above m.after ms last uid id (Sound-step start m.command m.line m.after sound run.0) run.1 in
    let rose = last_issued_step start m.command m.line m.after uid id sound run.0 in
    All-cons Now m ms
    (λ later e. let now = issued_now start m.command m.line m.after uid id later run.0 e in omega (arith, now.next))
    (λ k d inside later e. let up = rest k d inside later e in omega (arith, rose, up))

pub CountersRise-run : (start : Campaign) (ms : List LedgerMoment) (last : Campaign) → SoundLedger start → Run LedgerStep start ms last → CountersRise ms
CountersRise-run start [] last sound run = λ i j d before inside. absurd (omega (arith, inside))
CountersRise-run start (m ∷ ms) last sound run =
    let Rises : LedgerMoment → LedgerMoment → Type 0 = λ m n. (uid : List ℕ) (id counter later : ℕ)
    → issued_for uid id m.command m.line ≡ Some counter → issued_for uid id n.command n.line ≡ Some later → counter < later in
    let next = Sound-step start m.command m.line m.after sound run.0 in
    AllPairs-cons Rises m ms
    (λ k d inside uid id counter later mine yours.
    let now = issued_now start m.command m.line m.after uid id counter run.0 mine in
    let up = above m.after ms last uid id next run.1 k d inside later yours in
    omega (arith, now.last, up))
    (CountersRise-run m.after ms last next run.1)

-- ---- entries stay

pub kept_change : (c : Campaign) (entries : List (Option LedgerEntry)) (change : PendingEntry) (uid : List ℕ) (id : ℕ) (e : LedgerEntry) → Advances c.entries change
    → entries ≡ with_change change c.entries → entry_for uid id c.entries ≡ Some e → (f : LedgerEntry) × (entry_for uid id entries ≡ Some f) × (e.counter ≤ f.counter)
kept_change c entries change uid id e advances is at = elim (entry_after c.entries change.place change.entry advances.takes uid id) [
  | inl own ↦ (
    change.entry,
    ap (entry_for uid id) is ∙ own.2,
    let forward : last_issued uid id c.entries ≤ change.entry.counter =
        subst (λ u. last_issued u id c.entries ≤ change.entry.counter) own.0 (subst (λ i. last_issued change.entry.uid i c.entries ≤ change.entry.counter) own.1 advances.forward) in
        omega (arith, forward, ap entry_counter at),
  )
  | inr same ↦ (e, ap (entry_for uid id) is ∙ same ∙ at, omega arith)
]

kept_step : (c : Campaign) (cmd : LedgerCommand) (told : LedgerLine) (after : Campaign) (uid : List ℕ) (id : ℕ) (e : LedgerEntry) → SoundLedger c → LedgerStep c cmd told after
    → entry_for uid id c.entries ≡ Some e → (f : LedgerEntry) × (entry_for uid id after.entries ≡ Some f) × (e.counter ≤ f.counter)
kept_step c cmd told after uid id e sound step at =
    let same_entries : after.entries ≡ c.entries → (f : LedgerEntry) × (entry_for uid id after.entries ≡ Some f) × (e.counter ≤ f.counter) = λ same. (e, ap (entry_for uid id) same ∙ at, omega arith) in
    elim (effect_of c cmd told after step) [
      | stays same ↦ same_entries (ap (λ (s : Campaign). s.entries) same)
      | made change makes is ↦ kept_change c after.entries change uid id e (advances_made c cmd change sound makes) (ap (λ (s : Campaign). s.entries) is) at
      | failed change makes is ↦ same_entries (ap (λ (s : Campaign). s.entries) is)
      | powers power ↦ elim power [
        | inl same ↦ same_entries (ap (λ (s : Campaign). s.entries) same)
        | inr changed ↦ kept_change c after.entries changed.0 uid id e (pending_advances c changed.0 sound changed.1) (ap (λ (s : Campaign). s.entries) changed.2) at
      ]
      | off is ↦ same_entries (ap (λ (s : Campaign). s.entries) is)
    ]

KeepsEntries-run : (start : Campaign) (ms : List LedgerMoment) (last : Campaign) → SoundLedger start → Run LedgerStep start ms last → KeepsEntries start last
KeepsEntries-run start [] last sound run uid id e at = record { now = e; there = ap (λ (s : Campaign). entry_for uid id s.entries) run ∙ at; no_lower = omega arith }
KeepsEntries-run start (m ∷ ms) last sound run uid id e at =
    let next = kept_step start m.command m.line m.after uid id e sound run.0 at in
    let rest = KeepsEntries-run m.after ms last (Sound-step start m.command m.line m.after sound run.0) run.1 uid id next.0 next.1 in
    record { now = rest.now; there = rest.there; no_lower = omega (arith, next.2, rest.no_lower) }

all_keep : (start : Campaign) (ms : List LedgerMoment) (last : Campaign) → SoundLedger start → Run LedgerStep start ms last → All (λ m. KeepsEntries m.after last) ms
all_keep start [] last sound run = All-nil _
all_keep start (m ∷ ms) last sound run =
    let P : LedgerMoment → Type 0 = λ n. KeepsEntries n.after last in
    let next = Sound-step start m.command m.line m.after sound run.0 in
    All-cons P m ms (KeepsEntries-run m.after ms last next run.1) (all_keep m.after ms last next run.1)

pub NoneGoes-run : (start : Campaign) (ms : List LedgerMoment) (last : Campaign) → SoundLedger start → Run LedgerStep start ms last → NoneGoes start ms last
NoneGoes-run start ms last sound run = (KeepsEntries-run start ms last sound run, all_keep start ms last sound run)
