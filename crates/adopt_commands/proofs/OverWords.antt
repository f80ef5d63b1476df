-- What the arguments name, and all that is promised over it
use Rattle.std.proofs.Common.{◌≡◌, ◌∙◌, ℕ, List, [], ◌∷◌, refl, sym, ap, subst}
use Rattle.std.specs.Prelude.{Option, Some, None, Result, Ok, Err, take}
use Rattle.bus_port.specs.Source.{SourceState}
use Rattle.cut_disk.specs.State.{DiskState}
use Rattle.file_disk.specs.NamedDisks.{IsOpenedBy, OpenedByWords}
use Rattle.program_edge.specs.Inputs.{Reading}
use Rattle.program_edge.specs.Rows.{Row}
use Rattle.program_edge.specs.Endings.{Ending}
use Rattle.program_edge.proofs.CallerLemmas.{EndsInRow-more}
use Rattle.key_campaign.specs.declared.entries.LedgerEntry.{LedgerEntry}
use Rattle.ledger_commands.specs.Named.{AllNamed}
use Rattle.adopt_commands.specs.declared.tasks.AdoptTask.{AdoptTask}
use Rattle.adopt_commands.specs.AdoptTasks.{may_make, adoption_asked}
use Rattle.adopt_commands.specs.AdoptRows.{AsksNoAdoption, GivesEntries, EndsOnLedger, EndsOverLedgers, not_opened, adopts_into, without_disk, on_first_disk}
use Rattle.adopt_commands.specs.AdoptFiles.{files_of, adoption_files, ledger_word, is_strict, EndsInto, EndsAdoptTask, EndsAdoptWords, no_room, over_disk, in_row, with_entries, asks_nothing, asks_it}
use Rattle.adopt_commands.specs.AdoptRuns.{AdoptInputs, OpensNoLedger, ComesToAdopt, RunsAdoption, malformed, wrong_value, no_entries_given, no_disk_room, refused_disk}
use Rattle.adopt_commands.specs.AdoptsOver.{OpensDisk, AdoptsOver, none_opened, one_opened}
use Rattle.adopt_commands.proofs.Naming.{over_none_named}
use Rattle.adopt_commands.proofs.AdoptPromises.{runs_row, runs_lines}

-- ---- arguments that ask for nothing

of_asked : (i : AdoptInputs) (o : Option (Result AdoptTask ℕ)) → adoption_asked i.words ≡ o → i.files ≡ [] → OpensNoLedger i → (row : Row) → AsksNoAdoption o row
    → ComesToAdopt i row
of_asked i None is files unopened row told = subst (ComesToAdopt i) (sym told) (malformed is files unopened)
of_asked i (Some (Ok task)) is files unopened row told = absurd told
of_asked i (Some (Err number)) is files unopened row told = subst (ComesToAdopt i) (sym told) (wrong_value number is files unopened)

-- ---- a disk that was opened

lone_disk : (ds : List DiskState) (disk old : DiskState) (others : List DiskState) → ds ≡ disk ∷ [] → ds ≡ old ∷ others → others ≡ []
lone_disk ds disk old others one first = let both : disk ∷ [] ≡ old ∷ others = sym one ∙ first in cc both

is_there : (ds : List DiskState) (disk : DiskState) → ds ≡ disk ∷ [] → ds ≡ [] → ⊥
is_there ds disk one none = absurd (cc)

module _ (words : List (List ℕ)) (files : List Reading) (disks : List DiskState) (e : Ending) (asked : AdoptTask) (entries : List LedgerEntry)
    (is : adoption_asked words ≡ Some (Ok asked)) (gives : GivesEntries asked files entries) where
  abbrev inputs : List DiskState → AdoptInputs
  inputs before = record { words = words; files = files; before = before; after = disks }

  on_disk : (before : List DiskState) (old new : DiskState) → before ≡ old ∷ [] → disks ≡ new ∷ [] → EndsOnLedger (may_make words) (is_strict asked) entries e old new
      → RunsAdoption (inputs before) e
  on_disk before old new before_is after_is (not_opened ends) =
      runs_row (inputs before) e
      (EndsInRow-more
      (λ row refuses.
      refused_disk row (asked, entries, is, gives, record { old = old; new = new; before_is = before_is; after_is = after_is; holds = refuses }))
      ends)
  on_disk before old new before_is after_is (adopts_into into) =
      runs_lines (inputs before) e
      (asked, entries, is, gives, record { old = old; new = new; before_is = before_is; after_is = after_is; holds = into })

  over_it : (opens : List ℕ → DiskState → Type 0) (before : List DiskState) → IsOpenedBy opens (ledger_word words) before
      → EndsOverLedgers (may_make words) (is_strict asked) entries e before disks → RunsAdoption (inputs before) e
  over_it opens before opened (without_disk none left ends) = absurd (is_there before opened.disk opened.one none)
  over_it opens before opened (on_first_disk old new others before_is after_is ends) =
      let alone = lone_disk before opened.disk old others opened.one before_is in
      on_disk before old new (before_is ∙ ap (λ (ds : List DiskState). old ∷ ds) alone) (after_is ∙ ap (λ (ds : List DiskState). new ∷ ds) alone) ends

-- what was had over these files, and the disk that was opened
record HadOver (opens : List ℕ → DiskState → Type 0) (o : OpenedByWords) (words : List (List ℕ)) (files : List Reading) (disks : List DiskState) (e : Ending) : Type 0 where
  pub before : List DiskState
  pub disk_named : OpensDisk opens o.disks_before o.disks_after (ledger_word words) before
  pub runs : RunsAdoption (record { words = words; files = files; before = before; after = disks }) e

had_into : (opens : List ℕ → DiskState → Type 0) (o : OpenedByWords) (words : List (List ℕ)) (files : List Reading) (disks : List DiskState) (e : Ending) (asked : AdoptTask)
    (entries : List LedgerEntry) → adoption_asked words ≡ Some (Ok asked) → GivesEntries asked files entries
    → EndsInto opens o.disks_before o.disks_after (ledger_word words) (may_make words) (is_strict asked) entries disks e → HadOver opens o words files disks e
had_into opens o words files disks e asked entries is gives (no_room same none ends) = record {
  before = [];
  disk_named = none_opened same;
  runs = runs_row (record { words = words; files = files; before = []; after = disks }) e
      (EndsInRow-more
      (λ row told. subst (ComesToAdopt (record { words = words; files = files; before = []; after = disks })) (sym told)
      (no_disk_room asked entries is gives (record { none_before = refl; none_after = none })))
      ends);
}
had_into opens o words files disks e asked entries is gives (over_disk before opened noted ends) = record {
  before = before;
  disk_named = one_opened before opened noted;
  runs = over_it words files disks e asked entries is gives opens before opened ends;
}

had_task : (opens : List ℕ → DiskState → Type 0) (o : OpenedByWords) (words : List (List ℕ)) (files : List Reading) (disks : List DiskState) (e : Ending) (asked : AdoptTask)
    → adoption_asked words ≡ Some (Ok asked) → EndsAdoptTask opens o words asked disks e files → HadOver opens o words files disks e
had_task opens o words files disks e asked is (in_row ends same none) = record {
  before = [];
  disk_named = none_opened same;
  runs = runs_row (record { words = words; files = files; before = []; after = disks }) e
      (EndsInRow-more (λ row lacks. no_entries_given asked row is lacks (record { none_before = refl; none_after = none })) ends);
}
had_task opens o words files disks e asked is (with_entries entries gives into) = had_into opens o words files disks e asked entries is gives into

pub adopts_over : (opens : List ℕ → SourceState → Type 0) (disk_opens : List ℕ → DiskState → Type 0) (o : OpenedByWords) (words : List (List ℕ)) (left : List SourceState)
    (disks : List DiskState) (e : Ending) → EndsAdoptWords opens disk_opens o words left disks e → AdoptsOver opens disk_opens o words left disks e
adopts_over opens disk_opens o words left disks e (asks_nothing ends same none disks_same no_disks) =
    let i : AdoptInputs = record { words = words; files = []; before = []; after = disks } in
    record {
      before = [];
      disk_named = none_opened disks_same;
      over_files = over_none_named opens o.before o.after (adoption_files words) left
          (λ files. RunsAdoption (record { words = words; files = files; before = []; after = disks }) e)
          same none
          (runs_row i e (EndsInRow-more (of_asked i (adoption_asked words) refl refl (record { none_before = refl; none_after = no_disks })) ends));
    }
adopts_over opens disk_opens o words left disks e (asks_it asked is over) =
    let had = had_task disk_opens o words over.files disks e asked is over.has in
    record {
      before = had.before;
      disk_named = had.disk_named;
      over_files = record {
        files = over.files;
        number = over.number;
        named = subst (λ (ws : List (List ℕ)). AllNamed opens o.before (take over.number ws) over.files o.after)
            (sym (ap (λ (q : Option (Result AdoptTask ℕ)). files_of q words) is)) over.named;
        left_is = over.left_is;
        has = had.runs;
      };
    }
