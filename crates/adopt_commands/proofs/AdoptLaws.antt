-- What a run of a keeper leaves
use Rattle.std.proofs.Common.{◌≡◌, ◌≢◌, suc, ◌∙◌, ℕ, ◌+◌, ◌*◌, Bool, true, false, List, [], ◌∷◌, ◌++◌, take, drop, length, refl, sym, ap, ap₂, subst, append_assoc, arith}
use Rattle.std.specs.Prelude.{All, Result, Ok, Err, IfErr, ◌||◌}
use Rattle.std.specs.List.{list_any}
use Rattle.std.proofs.lemmas.Bool.{true≢false}
use Rattle.std.proofs.lemmas.List.{take-append-drop, map-append}
use Rattle.cut_disk.proofs.CallerLemmas.{runs_none, runs_join, runs_more}
use Rattle.machine_runs.specs.Run.{Moment, Run, commands_in, lines_in}
use Rattle.machine_runs.proofs.CallerLemmas.{Run-split}
use Rattle.run_driver.specs.Printed.{texts}
use Rattle.key_campaign.specs.declared.adoption.Adoption.{Adoption}
use Rattle.key_campaign.specs.declared.adoption.Adoption.TheVariants as adoption
use Rattle.key_campaign.specs.declared.entries.LedgerEntry.{LedgerEntry}
use Rattle.key_campaign.specs.declared.faults.LedgerFault.{LedgerFault}
use Rattle.key_campaign.specs.declared.faults.LedgerFault.TheVariants as fault
use Rattle.key_campaign.specs.Entries.{IsEntry}
use Rattle.key_campaign.specs.Campaign.{Campaign, SoundLedger}
use Rattle.key_campaign.specs.Claims.{KeepsEntries}
use Rattle.key_campaign.specs.Adopting.{AdoptStep}
use Rattle.key_campaign.specs.State.{LedgerState, ServedLedger}
use Rattle.key_campaign.proofs.CallerLemmas.{adopted_keeps, adopted_sound}
use Rattle.adopt_commands.specs.declared.lines.AdoptLine.{AdoptLine}
use Rattle.adopt_commands.specs.AdoptTurns.{KeeperState, AdoptTurn, adopt_text, adopt_line, is_last_adoption, is_refused}
use Rattle.adopt_commands.specs.Adoptions.{AdoptsEach, no_entries, one_adopted, NoneLast, adopt_texts, AllAdopted, LastNotPut}

abbrev Moments : Type 0
Moments = List (Moment LedgerEntry AdoptLine KeeperState)

-- ---- entries are kept from one ledger to the next

pub keeps_same : (c : Campaign) → KeepsEntries c c
keeps_same c uid id e at = record { now = e; there = at; no_lower = omega arith }

pub keeps_then : (a b c : Campaign) → KeepsEntries a b → KeepsEntries b c → KeepsEntries a c
keeps_then a b c first second uid id e at =
    let mid = first uid id e at in
    let last = second uid id mid.now mid.there in
    record { now = last.now; there = last.there; no_lower = omega (arith, mid.no_lower, last.no_lower) }

-- ---- one entry that doesn't find the disk failing

up_after : (c : Campaign) (entry : LedgerEntry) (result : Result Adoption LedgerFault) (after : Campaign) → AdoptStep c entry result after → c.up ≡ true
    → is_last_adoption (adopt_line entry result) ≡ false → after.up ≡ true
up_after c entry (Ok adoption.Raised) after step up isnt = ap (λ (s : Campaign). s.up) step.2 ∙ up
up_after c entry (Ok adoption.Held) after step up isnt = ap (λ (s : Campaign). s.up) step.2 ∙ up
up_after c entry (Ok (adoption.Behind counter)) after step up isnt = ap (λ (s : Campaign). s.up) step.2 ∙ up
up_after c entry (Err fault.Full) after step up isnt = ap (λ (s : Campaign). s.up) step.2 ∙ up
up_after c entry (Err fault.Down) after step up isnt = absurd (true≢false isnt)
up_after c entry (Err fault.Faulted) after step up isnt = absurd (true≢false isnt)
up_after c entry (Err _) after step up isnt = absurd step.1

abbrev is_full : LedgerFault → Bool
is_full fault.Full = true
is_full _ = false

calm_after : (old new : LedgerState) (entry : LedgerEntry) (result : Result Adoption LedgerFault) → ServedLedger old new result
    → IfErr result (λ why. why ≢ fault.Faulted → new ≡ old) → is_last_adoption (adopt_line entry result) ≡ false
    → new.store.disk.faults ≡ old.store.disk.faults
calm_after old new entry (Ok done) serves untouched isnt = serves.faults
calm_after old new entry (Err fault.Full) serves untouched isnt =
    ap (λ (l : LedgerState). l.store.disk.faults) (untouched (λ e. true≢false (ap is_full e)))
calm_after old new entry (Err fault.Down) serves untouched isnt = absurd (true≢false isnt)
calm_after old new entry (Err fault.BadPair) serves untouched isnt = absurd (true≢false isnt)
calm_after old new entry (Err fault.Spent) serves untouched isnt = absurd (true≢false isnt)
calm_after old new entry (Err fault.Faulted) serves untouched isnt = absurd (true≢false isnt)
calm_after old new entry (Err fault.Unknown) serves untouched isnt = absurd (true≢false isnt)
calm_after old new entry (Err fault.AlreadyConfirmed) serves untouched isnt = absurd (true≢false isnt)
calm_after old new entry (Err fault.NotConfirmed) serves untouched isnt = absurd (true≢false isnt)

-- ---- entries none of which finds it failing

pub all_none : (s : KeeperState) → SoundLedger s.ledger.campaign → s.ledger.campaign.up ≡ true → AllAdopted s [] [] s
all_none s sound up = record {
  answers = no_entries s.ledger.campaign;
  none_failed = λ k d inside. absurd (omega (arith, inside));
  strict_is = refl;
  refused_is = sym (or_false s.refused);
  keeps = keeps_same s.ledger.campaign;
  up = up;
  sound = sound;
  layout = refl;
  runs = runs_none s.ledger.store.disk;
  calm = refl;
  fits = λ h. h;
}
  where
    or_false : (b : Bool) → (b || false) ≡ b
    or_false true = refl
    or_false false = refl

or_assoc : (a b c : Bool) → ((a || b) || c) ≡ (a || (b || c))
or_assoc true b c = refl
or_assoc false b c = refl

pub all_adopted_run : (s : KeeperState) (ms : Moments) (t : KeeperState) → SoundLedger s.ledger.campaign → s.ledger.campaign.up ≡ true → All IsEntry (commands_in ms)
    → Run AdoptTurn s ms t → NoneLast (lines_in ms) → AllAdopted s (commands_in ms) (lines_in ms) t
all_adopted_run s [] t sound up are run none =
    subst (λ (k : KeeperState). AllAdopted s [] [] k) (sym run) (all_none s sound up)
all_adopted_run s (m ∷ ms) t sound up are (turn, run) none =
    let isnt : is_last_adoption (adopt_line m.command turn.result) ≡ false = ap is_last_adoption (sym turn.line_is) ∙ none 0 m.line (omega arith) in
    let is : IsEntry m.command = are 0 m.command (omega arith) in
    let more : All IsEntry (commands_in ms) = λ k d inside. are (suc k) d (omega (arith, inside)) in
    let later : NoneLast (lines_in ms) = λ k d inside. none (suc k) d (omega (arith, inside)) in
    let c = s.ledger.campaign in
    let mid = m.after.ledger.campaign in
    let sound_mid = adopted_sound c m.command turn.result mid sound is turn.step in
    let rest = all_adopted_run m.after ms t sound_mid (up_after c m.command turn.result mid turn.step up isnt) more run later in
    let six_more : 6 + 6 * length (commands_in ms) ≡ 6 * suc (length (commands_in ms)) = omega arith in
    let lines_is : list_any (is_refused m.after.strict) (lines_in ms) ≡ list_any (is_refused s.strict) (lines_in ms) =
    ap (λ b. list_any (is_refused b) (lines_in ms)) turn.strict_is in
    record {
      answers = subst (λ (l : AdoptLine). AdoptsEach c (m.command ∷ commands_in ms) (l ∷ lines_in ms) t.ledger.campaign) (sym turn.line_is)
          (one_adopted c mid t.ledger.campaign m.command (commands_in ms) turn.result (lines_in ms) turn.step rest.answers);
      none_failed = none;
      strict_is = rest.strict_is ∙ turn.strict_is;
      refused_is = rest.refused_is
          ∙ ap₂ (λ a b. a || b) turn.refused_is lines_is
          ∙ or_assoc s.refused (is_refused s.strict m.line) (list_any (is_refused s.strict) (lines_in ms));
      keeps = keeps_then c mid t.ledger.campaign (adopted_keeps c m.command turn.result mid sound is turn.step).0 rest.keeps;
      up = rest.up;
      sound = rest.sound;
      layout = rest.layout ∙ turn.serves.layout;
      runs = runs_more (6 * suc (length (commands_in ms))) (omega (arith, six_more)) (runs_join turn.serves.runs rest.runs);
      calm = rest.calm ∙ calm_after s.ledger m.after.ledger m.command turn.result turn.serves turn.untouched isnt;
      fits = λ h. rest.fits (turn.serves.fits h);
    }

-- ---- an entry that finds it failing, after others that didn't

failed_of : (s : KeeperState) (entry : LedgerEntry) (result : Result Adoption LedgerFault) (t : LedgerState) → AdoptStep s.ledger.campaign entry result t.campaign
    → s.ledger.campaign.up ≡ true → is_last_adoption (adopt_line entry result) ≡ true → result ≡ Err fault.Faulted
failed_of s entry (Ok adoption.Raised) t step up is = absurd (true≢false (sym is))
failed_of s entry (Ok adoption.Held) t step up is = absurd (true≢false (sym is))
failed_of s entry (Ok (adoption.Behind counter)) t step up is = absurd (true≢false (sym is))
failed_of s entry (Err fault.Full) t step up is = absurd (true≢false (sym is))
failed_of s entry (Err fault.Down) t step up is = absurd (true≢false (sym up ∙ step.0))
failed_of s entry (Err fault.Faulted) t step up is = refl
failed_of s entry (Err _) t step up is = absurd step.1

pub last_not_put : (s : KeeperState) (front : Moments) (m : Moment LedgerEntry AdoptLine KeeperState) (t : KeeperState) → SoundLedger s.ledger.campaign → s.ledger.campaign.up ≡ true
    → All IsEntry (commands_in front) → IsEntry m.command → Run AdoptTurn s (front ++ m ∷ []) t → NoneLast (lines_in front) → is_last_adoption m.line ≡ true
    → LastNotPut s (commands_in front) (lines_in front) m.command t
last_not_put s front m t sound up are entry_is run none is =
    let (mid, first, (turn, now)) = Run-split AdoptTurn s front (m ∷ []) t run in
    let earlier = all_adopted_run s front mid sound up are first none in
    let result_is : turn.result ≡ Err fault.Faulted =
    failed_of mid m.command turn.result m.after.ledger turn.step earlier.up (ap is_last_adoption (sym turn.line_is) ∙ is) in
    let step = subst (λ (r : Result Adoption LedgerFault). AdoptStep mid.ledger.campaign m.command r m.after.ledger.campaign) result_is turn.step in
    subst (LastNotPut s (commands_in front) (lines_in front) m.command) (sym now) (record {
      mid = mid;
      earlier = earlier;
      change = step.0;
      makes = step.1;
      failed = step.2;
      keeps = λ powered power. keeps_then s.ledger.campaign mid.ledger.campaign powered earlier.keeps
          ((adopted_keeps mid.ledger.campaign m.command turn.result m.after.ledger.campaign earlier.sound entry_is turn.step).1 powered power);
      layout = turn.serves.layout ∙ earlier.layout;
      runs = turn.serves.runs;
      rose = turn.serves.faulted result_is;
      fits = λ h. turn.serves.fits (earlier.fits h);
    })

-- ---- the printed texts, the entries and the lines

pub adopt_texts_is : (n : ℕ) (lines : List AdoptLine) → texts adopt_text n lines ≡ adopt_texts lines
adopt_texts_is n [] = refl
adopt_texts_is n (told ∷ lines) = ap (λ rest. adopt_text 0 told ++ rest) (adopt_texts_is (n + 1) lines)

pub entries_are : (entries : List LedgerEntry) (front : Moments) (m : Moment LedgerEntry AdoptLine KeeperState) (k : ℕ)
    → commands_in (front ++ m ∷ []) ≡ take k entries → entries ≡ commands_in front ++ m.command ∷ drop k entries
entries_are entries front m k first =
    sym (take-append-drop k entries)
    ∙ ap (λ done. done ++ drop k entries) (sym first ∙ map-append (λ (n : Moment LedgerEntry AdoptLine KeeperState). n.command) front (m ∷ []))
    ∙ append_assoc (commands_in front) (m.command ∷ []) (drop k entries)

pub adopt_lines_are : (front : Moments) (m : Moment LedgerEntry AdoptLine KeeperState) → lines_in (front ++ m ∷ []) ≡ lines_in front ++ m.line ∷ []
adopt_lines_are front m = map-append (λ (n : Moment LedgerEntry AdoptLine KeeperState). n.line) front (m ∷ [])

pub adopt_commands_are : (front : Moments) (m : Moment LedgerEntry AdoptLine KeeperState) → commands_in (front ++ m ∷ []) ≡ commands_in front ++ m.command ∷ []
adopt_commands_are front m = map-append (λ (n : Moment LedgerEntry AdoptLine KeeperState). n.command) front (m ∷ [])
