-- What `ledger adopt`, `import` and `merge` promise
use Rattle.std.specs.Prelude.{◌≡◌, ◌⊎◌, ◌+◌, ◌*◌, ◌<◌, ℕ, Bool, false, if◌then◌else◌, All, Any, Option, Some, None, List, []}
use Rattle.std.specs.Prelude.{◌∷◌, ◌++◌, length, Ok, Err, codes}
use Rattle.std.specs.List.{list_any}
use Rattle.cut_disk.specs.State.{DiskState, Told}
use Rattle.cut_disk.specs.Images.{EachImage, firm}
use Rattle.cut_disk.specs.Calls.{Rose, Runs}
use Rattle.program_edge.specs.Inputs.{Reading, ReadsWhole, SourceFailed, CountsFault, GivesTooMuch, CountsTooMuch}
use Rattle.program_edge.specs.Inputs.{Offers}
use Rattle.program_edge.specs.Rows.{Row, row_of, memory_row}
use Rattle.program_edge.specs.Endings.{Ending, EndsInRow, EndsIn, MayEndIn, PrintsWhole, PrintsFront}
use Rattle.program_edge.specs.Endings.{SinkFailed, CountsWriteFault}
use Rattle.key_campaign.specs.declared.entries.LedgerEntry.{LedgerEntry}
use Rattle.key_campaign.specs.declared.entries.PendingEntry.{PendingEntry}
use Rattle.key_campaign.specs.Entries.{with_change}
use Rattle.key_campaign.specs.Campaign.{powered_ledger}
use Rattle.key_campaign.specs.Claims.{KeepsEntries}
use Rattle.key_campaign.specs.Adopting.{MakesAdopt}
use Rattle.campaign_commands.specs.Opening.{calls_to_open, HasNoHeader, StandsForEntries, StartsFrom, TellsFirm, HasLedger}
use Rattle.campaign_commands.specs.declared.opening.NoLedgerCause.{NoLedgerCause}
use Rattle.campaign_commands.specs.Campaigns.{CountsNone, TellsNoLedger}
use Rattle.ledger_commands.specs.LedgerBytes.{HoldsLedger}
use Rattle.ledger_commands.specs.LedgerRows.{ledger_usage, ledger_value_text}
use Rattle.ledger_commands.specs.LedgerReads.{HasNoLedger, OffersLedger, OffersNone}
use Rattle.ledger_commands.specs.StoreRows.{disk_failed_row}
use Rattle.ledger_backups.specs.Backups.{IsBackupOf, LacksBackup}
use Rattle.adopt_commands.specs.declared.lines.AdoptLine.{AdoptLine}
use Rattle.adopt_commands.specs.declared.lines.AdoptLine.TheVariants.{Failed}
use Rattle.adopt_commands.specs.declared.tasks.AdoptTask.{AdoptTask}
use Rattle.adopt_commands.specs.declared.tasks.AdoptTask.TheVariants as adopt
use Rattle.adopt_commands.specs.declared.tasks.EntryFile.TheVariants.{Backup, Ledger}
use Rattle.adopt_commands.specs.AdoptTasks.{may_make, adoption_asked}
use Rattle.adopt_commands.specs.AdoptTurns.{adopt_text, is_refused}
use Rattle.adopt_commands.specs.Adoptions.{AdoptsEach, NoneLast, adopt_texts, WritesBefore}
use Rattle.adopt_commands.specs.AdoptRows.{GivesEntries, LacksEntries, RefusesLedger, IsNotBlank}
use Rattle.adopt_commands.specs.AdoptFiles.{is_strict}

-- the arguments after `ledger`; what was known of the source of the file that was opened, if one was; and of the disk
-- that was opened, if one was, as it was opened and as it was handed back
pub record AdoptInputs : Type 0 where
  pub words : List (List ℕ)
  pub files : List Reading
  pub before : List DiskState
  pub after : List DiskState

-- no disk was opened
pub record OpensNoLedger (i : AdoptInputs) : Type 0 where
  pub none_before : i.before ≡ []
  pub none_after : i.after ≡ []

-- one was, and this holds of it as it was opened and as it was handed back
pub record OnLedgerDisk (i : AdoptInputs) (Holds : DiskState → DiskState → Type 0) : Type 0 where
  pub old : DiskState
  pub new : DiskState
  pub before_is : i.before ≡ old ∷ []
  pub after_is : i.after ≡ new ∷ []
  pub holds : Holds old new

-- These entries are asked for: that of the arguments, or all of a file that was read whole. A disk was opened, and this
-- holds of it.
abbrev pub OverEntries : AdoptInputs → (Bool → List LedgerEntry → DiskState → DiskState → Type 0) → Type 0
OverEntries i Holds =
    (asked : AdoptTask) × (entries : List LedgerEntry) × (adoption_asked i.words ≡ Some (Ok asked))
    × GivesEntries asked i.files entries × OnLedgerDisk i (Holds (is_strict asked) entries)

-- the entries are these, one more, and others, and this holds of the first and of the one
abbrev pub UpToEntry : List LedgerEntry → (List LedgerEntry → LedgerEntry → Type 0) → Type 0
UpToEntry entries Holds =
    (first : List LedgerEntry) × (entry : LedgerEntry) × (rest : List LedgerEntry)
    × (entries ≡ first ++ entry ∷ rest) × Holds first entry

-- ---- what was done to a disk

-- the most calls of a disk: those that open its ledger, and six of each entry
abbrev pub most_to_adopt : ℕ → ℕ
most_to_adopt entries = calls_to_open + 6 * entries

-- These entries were answered so by the ledger of the disk, and the disk didn't fail. No entry went and no counter
-- fell. If no byte was loose, each image of the disk then stands for the entries after the answers.
pub record TookAll (entries : List LedgerEntry) (lines : List AdoptLine) (old new : DiskState) : Type 0 where
  pub first : List (Option LedgerEntry)
  pub last : List (Option LedgerEntry)
  pub starts : StartsFrom old first
  pub answers : AdoptsEach (powered_ledger first) entries lines (powered_ledger last)
  pub none_failed : NoneLast lines
  pub keeps : KeepsEntries (powered_ledger first) (powered_ledger last)
  pub calm : new.faults ≡ old.faults
  pub runs : Runs [] (most_to_adopt (length entries)) old new
  pub images : TellsFirm old → EachImage new.told (λ x. StandsForEntries x last)

-- the bytes stand for these entries, or for these with a change
abbrev pub StandsWithChange : List (Option LedgerEntry) → PendingEntry → List ℕ → Type 0
StandsWithChange places change x = StandsForEntries x places ⊎ StandsForEntries x (with_change change places)

-- These entries were answered so, and the disk didn't fail. Then its count rose as one more was put. If no byte was
-- loose, each image stands for the entries after the answers, with this one or without it: no entry went, and no
-- counter fell, in either.
pub record StoppedAt (entries : List LedgerEntry) (lines : List AdoptLine) (entry : LedgerEntry)
    (old new : DiskState) : Type 0 where
  pub first : List (Option LedgerEntry)
  pub last : List (Option LedgerEntry)
  pub starts : StartsFrom old first
  pub answers : AdoptsEach (powered_ledger first) entries lines (powered_ledger last)
  pub none_failed : NoneLast lines
  pub change : PendingEntry
  pub makes : MakesAdopt (powered_ledger last) entry change
  pub keeps : KeepsEntries (powered_ledger first) (powered_ledger last)
  pub keeps_too : KeepsEntries (powered_ledger first) (powered_ledger (with_change change last))
  pub rose : Rose old.faults new.faults
  pub runs : Runs [] (most_to_adopt (length entries + 1)) old new
  pub images : TellsFirm old → EachImage new.told (StandsWithChange last change)

-- the bytes stand for a ledger that has each entry of these places, with no lower counter
pub record StandsForLater (places : List (Option LedgerEntry)) (x : List ℕ) : Type 0 where
  pub later : List (Option LedgerEntry)
  pub stands : StandsForEntries x later
  pub keeps : KeepsEntries (powered_ledger places) (powered_ledger later)

-- a disk that told the bytes of a ledger, none of them loose, has no image in which an entry went or a counter fell
abbrev pub KeepsLedgers : DiskState → DiskState → Type 0
KeepsLedgers old new = (x : List ℕ) (places : List (Option LedgerEntry)) → old.told ≡ Some (firm x)
    → HoldsLedger x places → EachImage new.told (StandsForLater places)

-- ---- the table: when each row comes instead of taking over

pub data ComesToAdopt (i : AdoptInputs) : Row → Type 0 where
  malformed : adoption_asked i.words ≡ None → i.files ≡ [] → OpensNoLedger i → ComesToAdopt i (row_of 2 ledger_usage)
  wrong_value : (number : ℕ) → adoption_asked i.words ≡ Some (Err number) → i.files ≡ [] → OpensNoLedger i
      → ComesToAdopt i (row_of 3 (ledger_value_text number))
  no_entries_given : (asked : AdoptTask) (row : Row) → adoption_asked i.words ≡ Some (Ok asked)
      → LacksEntries asked i.files row → OpensNoLedger i → ComesToAdopt i row
  no_disk_room : (asked : AdoptTask) (entries : List LedgerEntry) → adoption_asked i.words ≡ Some (Ok asked)
      → GivesEntries asked i.files entries → OpensNoLedger i → ComesToAdopt i memory_row
  refused_disk : (row : Row) → OverEntries i (λ strict entries old new. RefusesLedger (may_make i.words) old new row)
      → ComesToAdopt i row

-- ---- how it ends

-- all entries were answered, and exactly the lines of the answers were printed; 1 says that one was refused
abbrev pub TakesAll : AdoptInputs → Ending → Type 0
TakesAll i e = OverEntries i (λ strict entries old new. (lines : List AdoptLine) × TookAll entries lines old new
    × (e.status ≡ (if list_any (is_refused strict) lines then 1 else 0)) × PrintsWhole e (adopt_texts lines))

-- the disk failed as its ledger was opened, which was printed
abbrev pub FailsToOpen : AdoptInputs → Ending → Type 0
FailsToOpen i e = OverEntries i (λ strict entries old new.
    Rose old.faults new.faults × PrintsWhole e disk_failed_row.text)

-- it failed as an entry was put: the lines of those before it were printed, and then `refused MEMORY_FAILURE`
abbrev pub StopsAtEntry : AdoptInputs → Ending → Type 0
StopsAtEntry i e = OverEntries i (λ strict entries old new. UpToEntry entries (λ first entry.
    (lines : List AdoptLine) × StoppedAt first lines entry old new
    × PrintsWhole e (adopt_texts lines ++ adopt_text 0 Failed)))

-- the entries up to one were answered, and the line of the last wasn't written whole
abbrev pub EndsAtEntry : AdoptInputs → Ending → Type 0
EndsAtEntry i e = OverEntries i (λ strict entries old new. UpToEntry entries (λ first entry.
    ((lines : List AdoptLine) × (told : AdoptLine)
    × TookAll (first ++ entry ∷ []) (lines ++ told ∷ []) old new × WritesBefore e lines told)
    ⊎ ((lines : List AdoptLine) × StoppedAt first lines entry old new × WritesBefore e lines Failed)))

-- the row of these answers: 1 if one was refused, else 0, and their lines
abbrev pub adoption_row : Bool → List AdoptLine → Row
adoption_row strict lines = row_of (if list_any (is_refused strict) lines then 1 else 0) (adopt_texts lines)

-- the row of a disk that failed as an entry was put: the lines of those before it, and `refused MEMORY_FAILURE`
abbrev pub failed_put_row : List AdoptLine → Row
failed_put_row lines = row_of 10 (adopt_texts lines ++ adopt_text 0 Failed)

-- the table of answers: a row instead of taking over; the lines of all entries; or those up to one that wasn't put
pub data ComesOfAdoption (i : AdoptInputs) : Row → Type 0 where
  answers_none : (row : Row) → ComesToAdopt i row → ComesOfAdoption i row
  answers_all : (row : Row) → OverEntries i (λ strict entries old new. (lines : List AdoptLine)
      × TookAll entries lines old new × (row ≡ adoption_row strict lines)) → ComesOfAdoption i row
  fails_at_one : (row : Row) → OverEntries i (λ strict entries old new. UpToEntry entries (λ first entry.
      (lines : List AdoptLine) × StoppedAt first lines entry old new × (row ≡ failed_put_row lines)))
      → ComesOfAdoption i row

-- no entry was answered: at 6 a prefix of a row that comes was written, and at 7 nothing
abbrev pub TakesNone : AdoptInputs → Ending → Type 0
TakesNone i e = ((e.status ≡ 6) × PrintsFront (ComesToAdopt i) e) ⊎ ((e.status ≡ 7) × PrintsWhole e [])

-- the file of `import` was read whole and is no backup, for the cause of this row
abbrev pub HasNoBackup : Row → Reading → Type 0
HasNoBackup row r = (text : List ℕ) × ReadsWhole r text × LacksBackup text row

-- its source tells a text that is none, and doesn't fail
abbrev pub OffersNoBackup : Reading → Type 0
OffersNoBackup r = (text : List ℕ) × (row : Row) × Offers r text × LacksBackup text row

-- its source tells a whole backup
abbrev pub OffersBackup : Reading → Type 0
OffersBackup r = (text : List ℕ) × (entries : List LedgerEntry) × Offers r text × IsBackupOf text entries

-- the file, if a task names one, is offered
abbrev pub OffersEntries : AdoptTask → List Reading → Type 0
OffersEntries (adopt.One entry) files = Unit {0}
OffersEntries (adopt.All Backup) files = All OffersBackup files
OffersEntries (adopt.All Ledger) files = All OffersLedger files

-- the disk, if one was opened, tells a ledger, or, if one may be made, none of its first 32 bytes is set; and its count
-- didn't rise
abbrev pub OffersLedgerDisk : AdoptInputs → Type 0
OffersLedgerDisk i = (old new : DiskState) → i.before ≡ old ∷ [] → i.after ≡ new ∷ []
    → HasLedger old × (may_make i.words ≡ false → IsNotBlank old) × CountsNone old new

-- the disk tells its bytes, and none of the first 32 is set
pub record IsBlankDisk (disk : DiskState) : Type 0 where
  pub now : Told
  pub told : disk.told ≡ Some now
  pub blank : HasNoHeader now.bytes

-- no ledger is made: a blank disk is refused, unless it failed, and its bytes stay
pub record StaysBlank (e : Ending) (old new : DiskState) : Type 0 where
  pub kept : new.told ≡ old.told
  pub refused : CountsNone old new → MayEndIn 9 e

-- the file of `merge` was read whole and has no ledger, or the disk has none: the first cause is printed
abbrev pub RefusesLedgers : AdoptInputs → Ending → Type 0
RefusesLedgers i e =
    ((row : Row) × Any (HasNoLedger row) i.files × OpensNoLedger i × PrintsWhole e row.text)
    ⊎ OverEntries i (λ strict entries old new.
    (row : Row) × RefusesLedger (may_make i.words) old new row × PrintsWhole e row.text)

-- what is promised of these arguments, file and disk if it ends so, in the order of the table of answers
pub record RunsAdoption (i : AdoptInputs) (e : Ending) : Type 0 where
  -- The program prints a row of the table and ends with its status, or at 6 a prefix of one; or, at 6 and 7, it ends at
  -- the line of an entry, after the whole lines of those before.
  pub ends : EndsInRow (ComesOfAdoption i) e ⊎ EndsAtEntry i e
  -- 0 and 1: all entries were answered, and exactly their lines were printed; 1 exactly if one was refused.
  pub taken_over : (e.status ≡ 0) ⊎ (e.status ≡ 1) → TakesAll i e
  -- 10: exactly if the disk's count rose, as its ledger was opened or as an entry was put; what was answered before was
  -- printed.
  pub failed : e.status ≡ 10 → FailsToOpen i e ⊎ StopsAtEntry i e
  pub failed_only : (old new : DiskState) → i.before ≡ old ∷ [] → i.after ≡ new ∷ [] → old.faults < new.faults
      → MayEndIn 10 e
  -- At every status: no entry went and no counter fell, whatever a power cut leaves.
  pub keeps : (old new : DiskState) → i.before ≡ old ∷ [] → i.after ≡ new ∷ [] → KeepsLedgers old new
  -- 6 and 7: no entry was answered; or those up to one were, whose line wasn't written whole.
  pub early_ends : (e.status ≡ 6) ⊎ (e.status ≡ 7) → TakesNone i e ⊎ EndsAtEntry i e
  -- 2: exactly if the arguments are malformed; 3: exactly if a value isn't of its form. Nothing was opened.
  pub usage : e.status ≡ 2 → (adoption_asked i.words ≡ None) × (i.files ≡ []) × PrintsWhole e ledger_usage
  pub usage_only : adoption_asked i.words ≡ None → EndsIn 2 e
  pub value : e.status ≡ 3 → (number : ℕ) × (adoption_asked i.words ≡ Some (Err number)) × (i.files ≡ [])
      × PrintsWhole e (ledger_value_text number)
  pub value_only : (number : ℕ) → adoption_asked i.words ≡ Some (Err number) → EndsIn 3 e
  -- 4: exactly if the file of `import` was read whole and is no backup: its first line of no form, or `backup: not
  -- whole`.
  pub refused : e.status ≡ 4 → (row : Row) × Any (HasNoBackup row) i.files × PrintsWhole e row.text
  pub refused_only : adoption_asked i.words ≡ Some (Ok (adopt.All Backup)) → Any OffersNoBackup i.files → MayEndIn 4 e
  -- 5: exactly if the file's count of faults rose; 8: exactly if one byte more than an input may have came from it.
  pub read_fault : e.status ≡ 5 → Any SourceFailed i.files × PrintsWhole e (codes "read fault\n")
  pub read_fault_only : Any CountsFault i.files → EndsIn 5 e
  pub too_long : e.status ≡ 8 → Any GivesTooMuch i.files × PrintsWhole e (codes "input too long\n")
  pub too_long_only : Any CountsTooMuch i.files → EndsIn 8 e
  -- 9: the file of `merge` was read whole and has no ledger, or the disk has none, of which a blank one is taken with
  -- `--new`. It comes if such a file is offered, or such a disk.
  pub no_ledger : e.status ≡ 9 → RefusesLedgers i e
  pub no_ledger_only : adoption_asked i.words ≡ Some (Ok (adopt.All Ledger)) → Any OffersNone i.files → MayEndIn 9 e
  pub no_disk_only : (old new : DiskState) (cause : NoLedgerCause) → i.before ≡ old ∷ [] → i.after ≡ new ∷ []
      → TellsNoLedger cause old new → MayEndIn 9 e
  -- Without `--new` no ledger is made: a blank disk stays blank, and is refused with 9, or 10 if it failed.
  pub none_made : may_make i.words ≡ false → (old new : DiskState) → i.before ≡ old ∷ [] → i.after ≡ new ∷ []
      → IsBlankDisk old → StaysBlank e old new
  -- 2 to 5 and 8: no disk was opened, so no file was made.
  pub unopened : (e.status ≡ 2) ⊎ (e.status ≡ 3) ⊎ (e.status ≡ 4) ⊎ (e.status ≡ 5) ⊎ (e.status ≡ 8) → OpensNoLedger i
  -- 6: exactly if the sink's count of faults rose.
  pub write_fault : e.status ≡ 6 → SinkFailed e
  pub write_fault_only : CountsWriteFault e → e.status ≡ 6
  -- What is offered is taken over or refused entry by entry, if no port failed and there was memory.
  pub complete : (asked : AdoptTask) → adoption_asked i.words ≡ Some (Ok asked) → OffersEntries asked i.files
      → OffersLedgerDisk i → ¬ SinkFailed e → (e.status ≡ 0) ⊎ (e.status ≡ 1) ⊎ (e.status ≡ 7)
