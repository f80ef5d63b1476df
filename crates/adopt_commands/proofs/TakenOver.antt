-- Entries that were taken over are there, with no lower counter
use Rattle.std.proofs.Common.{◌≡◌, ◌≢◌, suc, ◌∙◌, ℕ, ◌≤◌, false, List, [], ◌∷◌, ◌++◌, length, length-append, refl, ap, subst, arith}
use Rattle.std.proofs.lemmas.Bool.{true≢false}
use Rattle.std.specs.Prelude.{All, Option, Some, None, Result, Ok, Err}
use Rattle.key_campaign.specs.declared.adoption.Adoption.{Adoption}
use Rattle.key_campaign.specs.declared.entries.LedgerEntry.{LedgerEntry}
use Rattle.key_campaign.specs.declared.faults.LedgerFault.{LedgerFault}
use Rattle.key_campaign.specs.declared.faults.LedgerFault.TheVariants as fault
use Rattle.key_campaign.specs.Entries.{IsEntry, entry_for, entry_counter, last_issued}
use Rattle.key_campaign.specs.Campaign.{Campaign, SoundLedger}
use Rattle.key_campaign.specs.Claims.{KeepsEntries}
use Rattle.key_campaign.specs.Adopting.{AdoptStep}
use Rattle.key_campaign.proofs.CallerLemmas.{adopted_keeps, adopted_reaches, adopted_sound}
use Rattle.adopt_commands.specs.declared.lines.AdoptLine.{AdoptLine}
use Rattle.adopt_commands.specs.declared.lines.AdoptLine.TheVariants as line
use Rattle.adopt_commands.specs.AdoptTurns.{adopt_line, is_last_adoption}
use Rattle.adopt_commands.specs.Adoptions.{AdoptsEach, no_entries, one_adopted, NoneLast}
use Rattle.adopt_commands.proofs.AdoptLaws.{keeps_same, keeps_then}

-- the counter that was issued last doesn't fall
counter_stays : (a b : Campaign) (uid : List ℕ) (id : ℕ) → KeepsEntries a b → last_issued uid id a.entries ≤ last_issued uid id b.entries
counter_stays a b uid id keeps = by_entry (entry_for uid id a.entries) refl
  where
    by_entry : (found : Option LedgerEntry) → entry_for uid id a.entries ≡ found → last_issued uid id a.entries ≤ last_issued uid id b.entries
    by_entry None at = omega (arith, ap entry_counter at)
    by_entry (Some e) at = let kept = keeps uid id e at in omega (arith, ap entry_counter at, ap entry_counter kept.there, kept.no_lower)

-- entries leave those that a ledger had
each_keeps : (c : Campaign) (entries : List LedgerEntry) (lines : List AdoptLine) (after : Campaign) → SoundLedger c → All IsEntry entries
    → AdoptsEach c entries lines after → KeepsEntries c after
each_keeps c entries lines after sound are (no_entries _) = keeps_same c
each_keeps c entries lines after sound are (one_adopted _ mid _ entry rest result more step later) =
    let is : IsEntry entry = are 0 entry (omega arith) in
    let others : All IsEntry rest = λ k d inside. are (suc k) d (omega (arith, inside)) in
    keeps_then c mid after (adopted_keeps c entry result mid sound is step).0
    (each_keeps mid rest more after (adopted_sound c entry result mid sound is step) others later)

-- one that is answered without a refusal
one_reaches : (c : Campaign) (entry : LedgerEntry) (result : Result Adoption LedgerFault) (after : Campaign) → SoundLedger c → IsEntry entry
    → AdoptStep c entry result after → is_last_adoption (adopt_line entry result) ≡ false → adopt_line entry result ≢ line.Full entry
    → entry.counter ≤ last_issued entry.uid entry.id after.entries
one_reaches c entry (Ok done) after sound is step isnt there = adopted_reaches c entry done after sound is step
one_reaches c entry (Err fault.Full) after sound is step isnt there = absurd (there refl)
one_reaches c entry (Err fault.Down) after sound is step isnt there = absurd (true≢false isnt)
one_reaches c entry (Err fault.Faulted) after sound is step isnt there = absurd (true≢false isnt)
one_reaches c entry (Err _) after sound is step isnt there = absurd step.1

first_is : (a b : LedgerEntry) (xs ys : List LedgerEntry) → a ∷ xs ≡ b ∷ ys → a ≡ b
first_is a b xs ys same = cc

rest_is : (a b : LedgerEntry) (xs ys : List LedgerEntry) → a ∷ xs ≡ b ∷ ys → xs ≡ ys
rest_is a b xs ys same = cc

pub all_reach : (c : Campaign) (entries : List LedgerEntry) (lines : List AdoptLine) (after : Campaign) → SoundLedger c → All IsEntry entries
    → AdoptsEach c entries lines after → NoneLast lines → (first rest : List LedgerEntry) (entry : LedgerEntry) → entries ≡ first ++ entry ∷ rest
    → All (λ told. told ≢ line.Full entry) lines → entry.counter ≤ last_issued entry.uid entry.id after.entries
all_reach c entries lines after sound are (no_entries _) none first rest entry split there =
    absurd (omega (arith, ap length split, length-append first (entry ∷ rest)))
all_reach c entries lines after sound are (one_adopted _ mid _ one others result more step later) none [] rest entry split there =
    let same : one ≡ entry = first_is one entry others rest split in
    let is : IsEntry one = are 0 one (omega arith) in
    let are_too : All IsEntry others = λ k d inside. are (suc k) d (omega (arith, inside)) in
    let isnt : is_last_adoption (adopt_line one result) ≡ false = none 0 (adopt_line one result) (omega arith) in
    let not_full : adopt_line one result ≢ line.Full one =
    λ full. there 0 (adopt_line one result) (omega arith) (full ∙ ap (λ (x : LedgerEntry). line.Full x) same) in
    let reached = one_reaches c one result mid sound is step isnt not_full in
    let stays = counter_stays mid after one.uid one.id (each_keeps mid others more after (adopted_sound c one result mid sound is step) are_too later) in
    subst (λ (x : LedgerEntry). x.counter ≤ last_issued x.uid x.id after.entries) same (omega (arith, reached, stays))
all_reach c entries lines after sound are (one_adopted _ mid _ one others result more step later) none (f ∷ fs) rest entry split there =
    let is : IsEntry one = are 0 one (omega arith) in
    let are_too : All IsEntry others = λ k d inside. are (suc k) d (omega (arith, inside)) in
    all_reach mid others more after (adopted_sound c one result mid sound is step) are_too later (λ k d inside. none (suc k) d (omega (arith, inside)))
    fs rest entry (rest_is one f others (fs ++ entry ∷ rest) split) (λ k d inside. there (suc k) d (omega (arith, inside)))
