-- What taking over entries promises, by how it ends
use Rattle.std.proofs.Common.{◌≡◌, ◌⊎◌, ◌∙◌, ℕ, ◌<◌, Bool, true, false, List, [], ◌∷◌, ◌++◌, refl, sym, ap, subst, inl, inr, arith}
use Rattle.std.specs.Prelude.{if◌then◌else◌, Any, Option, Some, None, Result, Ok, Err, codes}
use Rattle.std.specs.List.{list_any}
use Rattle.cut_disk.specs.State.{DiskState}
use Rattle.program_edge.specs.Inputs.{Reading, SourceFailed, CountsFault, GivesTooMuch, CountsTooMuch}
use Rattle.program_edge.specs.Rows.{Row}
use Rattle.program_edge.specs.Endings.{Ending, EndsInRow, MayEndIn, PrintsWhole, SinkFailed, CountsWriteFault}
use Rattle.program_edge.proofs.CallerLemmas.{EndsInRow-more, EndsInRow-at, EndsInRow-front, EndsInRow-rose, EndsInRow-only, EndsInRow-may, EndsInRow-well}
use Rattle.key_campaign.specs.declared.entries.LedgerEntry.{LedgerEntry}
use Rattle.campaign_commands.specs.declared.opening.NoLedgerCause.{NoLedgerCause}
use Rattle.campaign_commands.specs.Campaigns.{CountsNone, TellsNoLedger}
use Rattle.ledger_commands.specs.LedgerRows.{ledger_usage, ledger_value_text}
use Rattle.ledger_commands.specs.LedgerReads.{HasNoLedger, OffersNone}
use Rattle.ledger_commands.proofs.CallerLemmas.{lacks_none}
use Rattle.adopt_commands.specs.declared.lines.AdoptLine.{AdoptLine}
use Rattle.adopt_commands.specs.declared.lines.AdoptLine.TheVariants.{Failed}
use Rattle.adopt_commands.specs.declared.tasks.AdoptTask.{AdoptTask}
use Rattle.adopt_commands.specs.declared.tasks.AdoptTask.TheVariants as adopt
use Rattle.adopt_commands.specs.declared.tasks.EntryFile.{EntryFile}
use Rattle.adopt_commands.specs.declared.tasks.EntryFile.TheVariants.{Backup, Ledger}
use Rattle.adopt_commands.specs.AdoptTasks.{may_make, adoption_asked}
use Rattle.adopt_commands.specs.AdoptTurns.{adopt_text, is_refused}
use Rattle.campaign_commands.specs.Opening.{LedgerOpened}
use Rattle.adopt_commands.specs.Adoptions.{EndsAdopting, WritesBefore, adopt_texts, all_adopted, not_put, cut_short, cut_and_not_put}
use Rattle.adopt_commands.specs.AdoptRows.{GivesEntries, LacksEntries, LacksOfFile, AdoptsInto, first_keeper, unroomed, no_other}
use Rattle.adopt_commands.specs.AdoptFiles.{is_strict}
use Rattle.adopt_commands.specs.AdoptRuns.{AdoptInputs, OpensNoLedger, OverEntries, UpToEntry, TookAll, StoppedAt, KeepsLedgers, ComesToAdopt, malformed, wrong_value, no_entries_given, no_disk_room, refused_disk}
use Rattle.adopt_commands.specs.AdoptRuns.{ComesOfAdoption, answers_none, answers_all, fails_at_one, adoption_row, failed_put_row, EndsAtEntry, FailsToOpen, HasNoBackup, OffersNoBackup, OffersEntries, OffersLedgerDisk, RefusesLedgers, RunsAdoption}
use Rattle.adopt_commands.proofs.GivenFiles.{IsFileStatus, any_none, any_one, one_has, backup_none, of_file_status, of_file_4, of_file_5, of_file_7, of_file_8, of_file_9, of_file_fault, of_file_long, of_file_offered}
use Rattle.adopt_commands.proofs.GivenFiles.{given_no_fault, given_not_long, given_backup, given_ledger}
use Rattle.adopt_commands.proofs.LedgerDisks.{IsDiskStatus, disk_status, disk_7, disk_10, disk_calm, disk_counted, disk_keeps, disk_stays, disk_offered, not_opened_of_none}
use Rattle.adopt_commands.proofs.Taken.{took_all, all_keeps, stopped_at, stopped_keeps}

-- ---- one thing is asked, and one disk opened

abbrev Asked : Type 0
Asked = Option (Result AdoptTask ℕ)

not_none : (o : Asked) (x : Result AdoptTask ℕ) → o ≡ None → o ≡ Some x → ⊥
not_none o x none some = absurd (cc)

not_wrong : (o : Asked) (number : ℕ) (task : AdoptTask) → o ≡ Some (Err number) → o ≡ Some (Ok task) → ⊥
not_wrong o number task wrong right = absurd (cc)

one_task : (o : Asked) (a b : AdoptTask) → o ≡ Some (Ok a) → o ≡ Some (Ok b) → a ≡ b
one_task o a b first second = let both : ◌≡◌ {A = Asked} (Some (Ok a)) (Some (Ok b)) = sym first ∙ second in cc both

one_kind : (asked : AdoptTask) (kind other : EntryFile) → asked ≡ adopt.All kind → asked ≡ adopt.All other → kind ≡ other
one_kind asked kind other first second = let both : adopt.All kind ≡ adopt.All other = sym first ∙ second in cc both

no_first : (ds : List DiskState) (d : DiskState) → ds ≡ [] → ds ≡ d ∷ [] → ⊥
no_first ds d none one = absurd (cc)

one_first : (ds : List DiskState) (a b : DiskState) → ds ≡ a ∷ [] → ds ≡ b ∷ [] → a ≡ b
one_first ds a b first second = let both : a ∷ [] ≡ b ∷ [] = sym first ∙ second in cc both

-- ---- a task whose file gives no entries

lacks_status : (asked : AdoptTask) (files : List Reading) (row : Row) → LacksEntries asked files row → IsFileStatus row.status
lacks_status asked files row (unroomed none) = inr (inr (inl refl))
lacks_status asked files row (no_other kind r _ is one lacks) = of_file_status kind r row lacks

lacks_4 : (asked : AdoptTask) (files : List Reading) (row : Row) → LacksEntries asked files row → row.status ≡ 4 → Any (HasNoBackup row) files
lacks_4 asked files row comes four = grind (arith, one_has, of_file_4)

lacks_5 : (asked : AdoptTask) (files : List Reading) (row : Row) → LacksEntries asked files row → row.status ≡ 5 → Any SourceFailed files × (row.text ≡ codes "read fault\n")
lacks_5 asked files row comes five = grind (arith, of_file_5, one_has)

lacks_7 : (asked : AdoptTask) (files : List Reading) (row : Row) → LacksEntries asked files row → row.status ≡ 7 → row.text ≡ []
lacks_7 asked files row (unroomed none) seven = refl
lacks_7 asked files row (no_other kind r _ is one lacks) seven = of_file_7 kind r row lacks seven

lacks_8 : (asked : AdoptTask) (files : List Reading) (row : Row) → LacksEntries asked files row → row.status ≡ 8 → Any GivesTooMuch files × (row.text ≡ codes "input too long\n")
lacks_8 asked files row comes eight = grind (arith, of_file_8, one_has)

lacks_9 : (asked : AdoptTask) (files : List Reading) (row : Row) → LacksEntries asked files row → row.status ≡ 9 → Any (HasNoLedger row) files
lacks_9 asked files row comes nine = grind (arith, one_has, of_file_9)

lacks_fault : (asked : AdoptTask) (files : List Reading) (row : Row) → LacksEntries asked files row → Any CountsFault files → row.status ≡ 5
lacks_fault asked files row comes any = grind (arith, any_none, of_file_fault, any_one)

lacks_long : (asked : AdoptTask) (files : List Reading) (row : Row) → LacksEntries asked files row → Any CountsTooMuch files → row.status ≡ 8
lacks_long asked files row comes any = grind (arith, any_none, of_file_long, any_one)

lacks_backup : (asked : AdoptTask) (files : List Reading) (row : Row) → LacksEntries asked files row → asked ≡ adopt.All Backup → Any OffersNoBackup files
    → (row.status ≡ 4) ⊎ (row.status ≡ 7)
lacks_backup asked files row (unroomed none) it any = inr refl
lacks_backup asked files row (no_other kind r _ is one lacks) it any =
    backup_none r row (subst (λ k. LacksOfFile k r row) (one_kind asked kind Backup is it) lacks) (any_one OffersNoBackup r (subst (Any OffersNoBackup) one any))

lacks_ledger : (asked : AdoptTask) (files : List Reading) (row : Row) → LacksEntries asked files row → asked ≡ adopt.All Ledger → Any OffersNone files
    → (row.status ≡ 9) ⊎ (row.status ≡ 7)
lacks_ledger asked files row (unroomed none) it any = inr refl
lacks_ledger asked files row (no_other kind r _ is one lacks) it any =
    lacks_none r row (subst (λ k. LacksOfFile k r row) (one_kind asked kind Ledger is it) lacks) (any_one OffersNone r (subst (Any OffersNone) one any))

lacks_offered : (asked : AdoptTask) (files : List Reading) (row : Row) → LacksEntries asked files row → OffersEntries asked files → row.status ≡ 7
lacks_offered asked files row (unroomed none) offers = refl
lacks_offered asked files row (no_other kind r _ is one lacks) offers = of_file_offered kind files r row lacks one (subst (λ a. OffersEntries a files) is offers)

-- ---- the rows

abbrev IsAdoptStatus : ℕ → Type 0
IsAdoptStatus n = (n ≡ 2) ⊎ (n ≡ 3) ⊎ (n ≡ 4) ⊎ (n ≡ 5) ⊎ (n ≡ 7) ⊎ (n ≡ 8) ⊎ (n ≡ 9) ⊎ (n ≡ 10)

from_disk : (n : ℕ) → IsDiskStatus n → IsAdoptStatus n
from_disk n it = grind arith

from_file : (n : ℕ) → IsFileStatus n → IsAdoptStatus n
from_file n it = grind arith

module _ (i : AdoptInputs) (e : Ending) where
  row_status : (row : Row) → ComesToAdopt i row → IsAdoptStatus row.status
  row_status row comes = grind (arith, from_file, lacks_status, from_disk, disk_status)

  at_2 : (row : Row) → ComesToAdopt i row → row.status ≡ 2 → PrintsWhole e row.text → (adoption_asked i.words ≡ None) × (i.files ≡ []) × PrintsWhole e ledger_usage
  at_2 row comes at prints = grind (arith, lacks_status, disk_status)

  at_3 : (row : Row) → ComesToAdopt i row → row.status ≡ 3 → PrintsWhole e row.text
      → (number : ℕ) × (adoption_asked i.words ≡ Some (Err number)) × (i.files ≡ []) × PrintsWhole e (ledger_value_text number)
  at_3 row comes at prints = grind (arith, lacks_status, disk_status)

  at_4 : (row : Row) → ComesToAdopt i row → row.status ≡ 4 → PrintsWhole e row.text → (told : Row) × Any (HasNoBackup told) i.files × PrintsWhole e told.text
  at_4 row comes at prints = grind (arith, lacks_4, disk_status)

  at_5 : (row : Row) → ComesToAdopt i row → row.status ≡ 5 → PrintsWhole e row.text → Any SourceFailed i.files × PrintsWhole e (codes "read fault\n")
  at_5 row comes at prints = grind (arith, lacks_5, disk_status)

  at_7 : (row : Row) → ComesToAdopt i row → row.status ≡ 7 → PrintsWhole e row.text → PrintsWhole e []
  at_7 row comes at prints = grind (arith, lacks_7, disk_7)

  at_8 : (row : Row) → ComesToAdopt i row → row.status ≡ 8 → PrintsWhole e row.text → Any GivesTooMuch i.files × PrintsWhole e (codes "input too long\n")
  at_8 row comes at prints = grind (arith, lacks_8, disk_status)

  at_9 : (row : Row) → ComesToAdopt i row → row.status ≡ 9 → PrintsWhole e row.text → RefusesLedgers i e
  at_9 row (no_entries_given asked _ is lacks unopened) at prints = inl (row, lacks_9 asked i.files row lacks at, unopened, prints)
  at_9 row (refused_disk _ (asked, entries, is, gives, on)) at prints = inr (
    asked,
    entries,
    is,
    gives,
    record {
      old = on.old;
      new = on.new;
      before_is = on.before_is;
      after_is = on.after_is;
      holds = (row, on.holds, prints);
    },
  )
  at_9 row comes at prints = absurd (omega arith)

  at_10 : (row : Row) → ComesToAdopt i row → row.status ≡ 10 → PrintsWhole e row.text → FailsToOpen i e
  at_10 row comes at prints = grind (arith, lacks_status, disk_10)

  unopened_at : (row : Row) → ComesToAdopt i row → (row.status ≡ 2) ⊎ (row.status ≡ 3) ⊎ (row.status ≡ 4) ⊎ (row.status ≡ 5) ⊎ (row.status ≡ 8) → OpensNoLedger i
  unopened_at row comes at = grind (arith, disk_status)

  row_keeps : (row : Row) → ComesToAdopt i row → (old new : DiskState) → i.before ≡ old ∷ [] → i.after ≡ new ∷ [] → KeepsLedgers old new
  row_keeps row (malformed none files unopened) old new before after = absurd (no_first i.before old unopened.none_before before)
  row_keeps row (wrong_value number wrong files unopened) old new before after = absurd (no_first i.before old unopened.none_before before)
  row_keeps row (no_entries_given asked _ is lacks unopened) old new before after = absurd (no_first i.before old unopened.none_before before)
  row_keeps row (no_disk_room asked entries is gives unopened) old new before after = absurd (no_first i.before old unopened.none_before before)
  row_keeps row (refused_disk _ (asked, entries, is, gives, on)) old new before after =
      subst (λ (d : DiskState). KeepsLedgers d new) (one_first i.before on.old old on.before_is before)
      (subst (λ (d : DiskState). KeepsLedgers on.old d) (one_first i.after on.new new on.after_is after) (disk_keeps (may_make i.words) on.old on.new row on.holds))

  row_stays : may_make i.words ≡ false → (row : Row) → ComesToAdopt i row → (old new : DiskState) → i.before ≡ old ∷ [] → i.after ≡ new ∷ [] → new.told ≡ old.told
  row_stays none row comes old new before after = grind (arith, no_first, one_first, disk_stays)

  -- ---- which rows come

  only_2 : adoption_asked i.words ≡ None → (row : Row) → ComesToAdopt i row → row.status ≡ 2
  only_2 it row comes = grind (arith, not_none)

  only_3 : (value : ℕ) → adoption_asked i.words ≡ Some (Err value) → (row : Row) → ComesToAdopt i row → row.status ≡ 3
  only_3 value it row comes = grind (arith, not_none, not_wrong)

  only_5 : Any CountsFault i.files → (row : Row) → ComesToAdopt i row → row.status ≡ 5
  only_5 any row comes = grind (arith, any_none, lacks_fault, given_no_fault)

  only_8 : Any CountsTooMuch i.files → (row : Row) → ComesToAdopt i row → row.status ≡ 8
  only_8 any row comes = grind (arith, any_none, lacks_long, given_not_long)

  -- a file of this kind that gives entries, of a task that is asked
  gives_kind : (kind : EntryFile) (asked : AdoptTask) (entries : List LedgerEntry) → adoption_asked i.words ≡ Some (Ok (adopt.All kind))
      → adoption_asked i.words ≡ Some (Ok asked) → GivesEntries asked i.files entries → GivesEntries (adopt.All kind) i.files entries
  gives_kind kind asked entries it is gives =
      subst (λ a. GivesEntries a i.files entries) (one_task (adoption_asked i.words) asked (adopt.All kind) is it) gives

  may_4 : adoption_asked i.words ≡ Some (Ok (adopt.All Backup)) → Any OffersNoBackup i.files → (row : Row) → ComesToAdopt i row → (row.status ≡ 4) ⊎ (row.status ≡ 7)
  may_4 it any row comes = grind (arith, not_none, not_wrong, lacks_backup, one_task, given_backup, gives_kind)

  may_9 : adoption_asked i.words ≡ Some (Ok (adopt.All Ledger)) → Any OffersNone i.files → (row : Row) → ComesToAdopt i row → (row.status ≡ 9) ⊎ (row.status ≡ 7)
  may_9 it any row (malformed none files unopened) = absurd (not_none (adoption_asked i.words) (Ok (adopt.All Ledger)) none it)
  may_9 it any row (wrong_value number wrong files unopened) = absurd (not_wrong (adoption_asked i.words) number (adopt.All Ledger) wrong it)
  may_9 it any row (no_entries_given asked _ is lacks unopened) =
      lacks_ledger asked i.files row lacks (one_task (adoption_asked i.words) asked (adopt.All Ledger) is it) any
  may_9 it any row (no_disk_room asked entries is gives unopened) = absurd (given_ledger i.files entries (gives_kind Ledger asked entries it is gives) any)
  may_9 it any row (refused_disk _ (asked, entries, is, gives, on)) = absurd (given_ledger i.files entries (gives_kind Ledger asked entries it is gives) any)

  disk_9 : (old new : DiskState) → i.before ≡ old ∷ [] → i.after ≡ new ∷ [] → CountsNone old new → (row : Row) → ComesToAdopt i row
      → (row.status ≡ 9) ⊎ (row.status ≡ 7)
  disk_9 old new before after calm row comes = grind (arith, no_first, disk_calm, one_first)

  counted_10 : (old new : DiskState) → i.before ≡ old ∷ [] → i.after ≡ new ∷ [] → old.faults < new.faults → (row : Row) → ComesToAdopt i row → row.status ≡ 10
  counted_10 old new before after counts row comes = grind (arith, no_first, disk_counted, one_first)

  row_offered : (asked : AdoptTask) → adoption_asked i.words ≡ Some (Ok asked) → OffersEntries asked i.files → OffersLedgerDisk i → (row : Row) → ComesToAdopt i row
      → row.status ≡ 7
  row_offered asked it offers disk row (malformed none files unopened) = absurd (not_none (adoption_asked i.words) (Ok asked) none it)
  row_offered asked it offers disk row (wrong_value number wrong files unopened) = absurd (not_wrong (adoption_asked i.words) number asked wrong it)
  row_offered asked it offers disk row (no_entries_given other _ is lacks unopened) =
      lacks_offered other i.files row lacks (subst (λ a. OffersEntries a i.files) (one_task (adoption_asked i.words) asked other it is) offers)
  row_offered asked it offers disk row (no_disk_room other entries is gives unopened) = refl
  row_offered asked it offers disk row (refused_disk _ (other, entries, is, gives, on)) =
      let has = disk on.old on.new on.before_is on.after_is in
      disk_offered (may_make i.words) on.old on.new row on.holds has.0 has.1 has.2

  pub runs_row : EndsInRow (ComesToAdopt i) e → RunsAdoption i e
  runs_row ends =
      let never : (n : ℕ) → (n ≡ 0) ⊎ (n ≡ 1) → (row : Row) → ComesToAdopt i row → row.status ≡ n → ⊥ =
      λ n low row comes at. omega (arith, low, at, row_status row comes) in
      let no_6 : (row : Row) → ComesToAdopt i row → row.status ≡ 6 → ⊥ = λ row comes six. omega (arith, six, row_status row comes) in
      record {
        ends = inl (EndsInRow-more answers_none ends);
        taken_over = λ is. elim is [
          | inl zero ↦ EndsInRow-at ends 0 refl (λ row comes at prints. absurd (never 0 (inl refl) row comes at)) zero
          | inr one ↦ EndsInRow-at ends 1 refl (λ row comes at prints. absurd (never 1 (inr refl) row comes at)) one
        ];
        failed = λ ten. inl (EndsInRow-at ends 10 refl at_10 ten);
        failed_only = λ old new before after counts. EndsInRow-may ends 10 (λ row comes. inl (counted_10 old new before after counts row comes));
        keeps = row_keeps ends.row ends.comes;
        early_ends = λ is. elim is [
          | inl six ↦ inl (inl (six, (EndsInRow-front ends no_6 six).1))
          | inr seven ↦ inl (inr (seven, EndsInRow-at ends 7 refl at_7 seven))
        ];
        usage = EndsInRow-at ends 2 refl at_2;
        usage_only = λ it. EndsInRow-only ends 2 (only_2 it);
        value = EndsInRow-at ends 3 refl at_3;
        value_only = λ number it. EndsInRow-only ends 3 (only_3 number it);
        refused = EndsInRow-at ends 4 refl at_4;
        refused_only = λ it any. EndsInRow-may ends 4 (may_4 it any);
        read_fault = EndsInRow-at ends 5 refl at_5;
        read_fault_only = λ any. EndsInRow-only ends 5 (only_5 any);
        too_long = EndsInRow-at ends 8 refl at_8;
        too_long_only = λ any. EndsInRow-only ends 8 (only_8 any);
        no_ledger = EndsInRow-at ends 9 refl at_9;
        no_ledger_only = λ it any. EndsInRow-may ends 9 (may_9 it any);
        no_disk_only = λ old new cause before after tells. EndsInRow-may ends 9 (disk_9 old new before after tells.calm);
        none_made = λ none old new before after blank. record {
          kept = row_stays none ends.row ends.comes old new before after;
          refused = λ calm. EndsInRow-may ends 9 (disk_9 old new before after calm);
        };
        unopened = λ is. row_unopened is;
        write_fault = λ six. (EndsInRow-front ends no_6 six).0;
        write_fault_only = EndsInRow-rose ends;
        complete = λ asked it offers disk well.
            let told = EndsInRow-well ends well in
            inr (inr (told.2 ∙ row_offered asked it offers disk told.0 told.1));
      }
    where
      row_unopened : (e.status ≡ 2) ⊎ (e.status ≡ 3) ⊎ (e.status ≡ 4) ⊎ (e.status ≡ 5) ⊎ (e.status ≡ 8) → OpensNoLedger i
      row_unopened (inl two) = EndsInRow-at ends 2 refl (λ row comes at prints. unopened_at row comes (inl at)) two
      row_unopened (inr (inl three)) = EndsInRow-at ends 3 refl (λ row comes at prints. unopened_at row comes (inr (inl at))) three
      row_unopened (inr (inr (inl four))) = EndsInRow-at ends 4 refl (λ row comes at prints. unopened_at row comes (inr (inr (inl at)))) four
      row_unopened (inr (inr (inr (inl five)))) = EndsInRow-at ends 5 refl (λ row comes at prints. unopened_at row comes (inr (inr (inr (inl at))))) five
      row_unopened (inr (inr (inr (inr eight)))) = EndsInRow-at ends 8 refl (λ row comes at prints. unopened_at row comes (inr (inr (inr (inr at))))) eight

-- ---- the lines

abbrev OneCut : Ending → List LedgerEntry → DiskState → DiskState → Type 0
OneCut e entries old new = UpToEntry entries (λ first entry.
    ((lines : List AdoptLine) × (told : AdoptLine) × TookAll (first ++ entry ∷ []) (lines ++ told ∷ []) old new × WritesBefore e lines told)
    ⊎ ((lines : List AdoptLine) × StoppedAt first lines entry old new × WritesBefore e lines Failed))

-- the text of a line wasn't written whole
abbrev IsCut : Ending → Type 0
IsCut e = ((e.status ≡ 6) × SinkFailed e) ⊎ ((e.status ≡ 7) × (CountsWriteFault e → ⊥))

is_cut : (e : Ending) (lines : List AdoptLine) (told : AdoptLine) → WritesBefore e lines told → IsCut e
is_cut e lines told (inl (six, rose, part)) = inl (six, rose)
is_cut e lines told (inr (seven, written)) = inr (seven, λ counts. omega (arith, counts, written.0))

data EndsTaken (strict : Bool) (entries : List LedgerEntry) (e : Ending) (old new : DiskState) : Type 0 where
  to_all : (lines : List AdoptLine) → e.status ≡ (if list_any (is_refused strict) lines then 1 else 0) → TookAll entries lines old new
      → PrintsWhole e (adopt_texts lines) → EndsTaken strict entries e old new
  to_one : e.status ≡ 10 → UpToEntry entries (λ first entry. (lines : List AdoptLine) × StoppedAt first lines entry old new
      × PrintsWhole e (adopt_texts lines ++ adopt_text 0 Failed)) → EndsTaken strict entries e old new
  cut_off : IsCut e → OneCut e entries old new → EndsTaken strict entries e old new

ends_taken : (may strict : Bool) (entries : List LedgerEntry) (e : Ending) (old new : DiskState) → AdoptsInto may strict entries e old new → EndsTaken strict entries e old new
ends_taken may strict entries e old new into = by_end into.ends
  where
    by_end : EndsAdopting (first_keeper into.opened strict) entries into.left e → EndsTaken strict entries e old new
    by_end (all_adopted lines status all printed) =
        to_all lines (status ∙ ap (λ b. if b then 1 else 0) all.refused_is)
        (took_all old strict into.opened into.opens entries lines into.left all new into.handed_back) printed
    by_end (not_put first entry rest lines ten is stopped printed) =
        to_one ten (first, entry, rest, is, (lines, stopped_at old strict into.opened into.opens first lines entry into.left stopped new into.handed_back, printed))
    by_end (cut_short first entry rest lines told is all writes) =
        cut_off (is_cut e lines told writes)
        (first, entry, rest, is, inl (lines, told, took_all old strict into.opened into.opens (first ++ entry ∷ []) (lines ++ told ∷ []) into.left all new into.handed_back, writes))
    by_end (cut_and_not_put first entry rest lines is stopped writes) =
        cut_off (is_cut e lines Failed writes)
        (first, entry, rest, is, inr (lines, stopped_at old strict into.opened into.opens first lines entry into.left stopped new into.handed_back, writes))

lines_keep : (may strict : Bool) (entries : List LedgerEntry) (e : Ending) (old new : DiskState) → AdoptsInto may strict entries e old new → KeepsLedgers old new
lines_keep may strict entries e old new into = by_end into.ends
  where
    by_end : EndsAdopting (first_keeper into.opened strict) entries into.left e → KeepsLedgers old new
    by_end (all_adopted lines status all printed) = all_keeps old strict into.opened into.opens entries lines into.left all new into.handed_back
    by_end (not_put first entry rest lines ten is stopped printed) =
        stopped_keeps old strict into.opened into.opens first lines entry into.left stopped new into.handed_back
    by_end (cut_short first entry rest lines told is all writes) =
        all_keeps old strict into.opened into.opens (first ++ entry ∷ []) (lines ++ told ∷ []) into.left all new into.handed_back
    by_end (cut_and_not_put first entry rest lines is stopped writes) =
        stopped_keeps old strict into.opened into.opens first lines entry into.left stopped new into.handed_back

zero_or_one : (b : Bool) → let n : ℕ = if b then 1 else 0 in (n ≡ 0) ⊎ (n ≡ 1)
zero_or_one true = inr refl
zero_or_one false = inl refl

module _ (strict : Bool) (entries : List LedgerEntry) (e : Ending) (old new : DiskState) where
  line_status : EndsTaken strict entries e old new → (e.status ≡ 0) ⊎ (e.status ≡ 1) ⊎ (e.status ≡ 6) ⊎ (e.status ≡ 7) ⊎ (e.status ≡ 10)
  line_status ends = grind (arith, zero_or_one)

  all_at : EndsTaken strict entries e old new → (e.status ≡ 0) ⊎ (e.status ≡ 1)
      → (lines : List AdoptLine) × TookAll entries lines old new × (e.status ≡ (if list_any (is_refused strict) lines then 1 else 0)) × PrintsWhole e (adopt_texts lines)
  all_at ends is = grind arith

  one_at : EndsTaken strict entries e old new → e.status ≡ 10 → UpToEntry entries (λ first entry.
      (lines : List AdoptLine) × StoppedAt first lines entry old new × PrintsWhole e (adopt_texts lines ++ adopt_text 0 Failed))
  one_at ends ten = grind (arith, zero_or_one)

  cut_at : EndsTaken strict entries e old new → (e.status ≡ 6) ⊎ (e.status ≡ 7) → OneCut e entries old new
  cut_at ends is = grind (arith, zero_or_one)

  sink_at : EndsTaken strict entries e old new → e.status ≡ 6 → SinkFailed e
  sink_at ends six = grind (arith, zero_or_one)

  counts_at : EndsTaken strict entries e old new → CountsWriteFault e → e.status ≡ 6
  counts_at ends counts = grind arith

  calm_at : EndsTaken strict entries e old new → CountsNone old new → ¬ SinkFailed e → (e.status ≡ 0) ⊎ (e.status ≡ 1) ⊎ (e.status ≡ 7)
  calm_at ends calm well = grind (arith, zero_or_one)

  stopped_at_10 : EndsTaken strict entries e old new → old.faults < new.faults → MayEndIn 10 e
  stopped_at_10 ends counts = grind arith

abbrev HoldsAll : Ending → Bool → List LedgerEntry → DiskState → DiskState → Type 0
HoldsAll e strict entries old new =
    (lines : List AdoptLine) × TookAll entries lines old new × (e.status ≡ (if list_any (is_refused strict) lines then 1 else 0)) × PrintsWhole e (adopt_texts lines)

abbrev HoldsOne : Ending → Bool → List LedgerEntry → DiskState → DiskState → Type 0
HoldsOne e strict entries old new = UpToEntry entries (λ first entry.
    (lines : List AdoptLine) × StoppedAt first lines entry old new × PrintsWhole e (adopt_texts lines ++ adopt_text 0 Failed))

abbrev HoldsCut : Ending → Bool → List LedgerEntry → DiskState → DiskState → Type 0
HoldsCut e strict entries old new = OneCut e entries old new

abbrev HoldsAllRow : Row → Bool → List LedgerEntry → DiskState → DiskState → Type 0
HoldsAllRow row strict entries old new = (lines : List AdoptLine) × TookAll entries lines old new × (row ≡ adoption_row strict lines)

abbrev HoldsOneRow : Row → Bool → List LedgerEntry → DiskState → DiskState → Type 0
HoldsOneRow row strict entries old new =
    UpToEntry entries (λ first entry. (lines : List AdoptLine) × StoppedAt first lines entry old new × (row ≡ failed_put_row lines))

pub runs_lines : (i : AdoptInputs) (e : Ending) → OverEntries i (λ strict entries old new. AdoptsInto (may_make i.words) strict entries e old new) → RunsAdoption i e
runs_lines i e (asked, entries, is, gives, on) =
    let strict = is_strict asked in
    let taken = ends_taken (may_make i.words) strict entries e on.old on.new on.holds in
    let among = line_status strict entries e on.old on.new taken in
    record {
      ends = table taken;
      taken_over = λ low. over (HoldsAll e) (all_at strict entries e on.old on.new taken low);
      failed = λ ten. inr (over (HoldsOne e) (one_at strict entries e on.old on.new taken ten));
      failed_only = λ old new before after counts.
          stopped_at_10 strict entries e on.old on.new taken
          (subst (λ (d : DiskState). d.faults < on.new.faults) (one_first i.before old on.old before on.before_is)
          (subst (λ (d : DiskState). old.faults < d.faults) (one_first i.after new on.new after on.after_is) counts));
      keeps = λ old new before after.
          subst (λ (d : DiskState). KeepsLedgers d new) (one_first i.before on.old old on.before_is before)
          (subst (λ (d : DiskState). KeepsLedgers on.old d) (one_first i.after on.new new on.after_is after)
          (lines_keep (may_make i.words) strict entries e on.old on.new on.holds));
      early_ends = λ early. inr (over (HoldsCut e) (cut_at strict entries e on.old on.new taken early));
      usage = λ at. absurd (omega (arith, at, among));
      usage_only = λ none. absurd (not_none (adoption_asked i.words) (Ok asked) none is);
      value = λ at. absurd (omega (arith, at, among));
      value_only = λ number wrong. absurd (not_wrong (adoption_asked i.words) number asked wrong is);
      refused = λ at. absurd (omega (arith, at, among));
      refused_only = λ it any. absurd (given_backup i.files entries (gives_kind i e Backup asked entries it is gives) any);
      read_fault = λ at. absurd (omega (arith, at, among));
      read_fault_only = λ any. absurd (given_no_fault asked i.files entries gives any);
      too_long = λ at. absurd (omega (arith, at, among));
      too_long_only = λ any. absurd (given_not_long asked i.files entries gives any);
      no_ledger = λ at. absurd (omega (arith, at, among));
      no_ledger_only = λ it any. absurd (given_ledger i.files entries (gives_kind i e Ledger asked entries it is gives) any);
      no_disk_only = λ old new cause before after tells. absurd (none_opened old new cause before tells);
      none_made = λ none old new before after blank.
          absurd (on.holds.stood none blank.now (ap (λ (d : DiskState). d.told) (one_first i.before on.old old on.before_is before) ∙ blank.told) blank.blank);
      unopened = λ at. absurd (omega (arith, at, among));
      write_fault = sink_at strict entries e on.old on.new taken;
      write_fault_only = counts_at strict entries e on.old on.new taken;
      complete = λ other it offers disk well.
          calm_at strict entries e on.old on.new taken (disk on.old on.new on.before_is on.after_is).2 well;
    }
  where
    over : (Holds : Bool → List LedgerEntry → DiskState → DiskState → Type 0) → Holds (is_strict asked) entries on.old on.new → OverEntries i Holds
    over Holds holds = (asked, entries, is, gives, record { old = on.old; new = on.new; before_is = on.before_is; after_is = on.after_is; holds = holds })

    table : EndsTaken (is_strict asked) entries e on.old on.new → EndsInRow (ComesOfAdoption i) e ⊎ EndsAtEntry i e
    table (to_all lines status took printed) =
        let row = adoption_row (is_strict asked) lines in
        inl (record { row = row; comes = answers_all row (over (HoldsAllRow row) (lines, took, refl)); told = inl (status, printed) })
    table (to_one ten (first, entry, rest, all, (lines, stopped, printed))) =
        let row = failed_put_row lines in
        inl (record { row = row; comes = fails_at_one row (over (HoldsOneRow row) (first, entry, rest, all, (lines, stopped, refl))); told = inl (ten, printed) })
    table (cut_off early one) = inr (over (HoldsCut e) one)

    none_opened : (old new : DiskState) (cause : NoLedgerCause) → i.before ≡ old ∷ [] → TellsNoLedger cause old new → ⊥
    none_opened old new cause before tells =
        not_opened_of_none old new on.holds.opened cause
        (subst (λ (d : DiskState). LedgerOpened d on.holds.opened) (one_first i.before on.old old on.before_is before) on.holds.opens) tells
