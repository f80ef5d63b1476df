-- The table of answers of `ledger adopt`, `import` and `merge`: its rows, and when each comes
use Rattle.std.specs.Prelude.{◌≡◌, ◌⊎◌, ℕ, Bool, true, false, Option, Some, None, List, [], ◌∷◌, Result, Ok, Err, codes}
use Rattle.cut_disk.specs.State.{DiskState, Told}
use Rattle.program_edge.specs.declared.input.InputFault.{InputFault}
use Rattle.program_edge.specs.Rows.{Row, row_of, input_row, memory_row}
use Rattle.program_edge.specs.Inputs.{Reading, ReadsWhole, Lacks}
use Rattle.program_edge.specs.Endings.{Ending, EndsInRow}
use Rattle.key_campaign.specs.declared.entries.LedgerEntry.{LedgerEntry}
use Rattle.key_campaign.specs.State.{LedgerState}
use Rattle.campaign_commands.specs.declared.opening.NoLedgerCause.{NoLedgerCause}
use Rattle.campaign_commands.specs.declared.opening.NoLedgerCause.TheVariants.{Store, BadEntry}
use Rattle.campaign_commands.specs.Opening.{HasNoHeader, LedgerOpened, LacksLedger}
use Rattle.ledger_commands.specs.EntryTexts.{held_entries}
use Rattle.ledger_commands.specs.LedgerBytes.{cause_row, bad_entry_row}
use Rattle.ledger_commands.specs.LedgerRows.{ReadsLedger, LacksLedgerFile, ledger_usage, ledger_value_text}
use Rattle.ledger_commands.specs.StoreRows.{IsStoreRow}
use Rattle.ledger_backups.specs.Backups.{IsBackupOf, LacksBackup}
use Rattle.adopt_commands.specs.declared.tasks.AdoptTask.{AdoptTask}
use Rattle.adopt_commands.specs.declared.tasks.AdoptTask.TheVariants as adopt
use Rattle.adopt_commands.specs.declared.tasks.EntryFile.{EntryFile}
use Rattle.adopt_commands.specs.declared.tasks.EntryFile.TheVariants.{Backup, Ledger}
use Rattle.adopt_commands.specs.AdoptTurns.{KeeperState}
use Rattle.adopt_commands.specs.Adoptions.{EndsAdopting}
use Rattle.adopt_commands.specs.StandingLedgers.{LacksStanding}

-- ---- arguments

-- the row of arguments that are malformed, or have a wrong value
abbrev pub AsksNoAdoption : Option (Result AdoptTask ℕ) → Row → Type 0
AsksNoAdoption None row = row ≡ row_of 2 ledger_usage
AsksNoAdoption (Some (Ok task)) row = ⊥
AsksNoAdoption (Some (Err number)) row = row ≡ row_of 3 (ledger_value_text number)

-- the task of values, or the row that names the first wrong one
abbrev pub GivesOne : Result AdoptTask ℕ → Result AdoptTask Row → Type 0
GivesOne asked (Ok task) = asked ≡ Ok task
GivesOne asked (Err row) = (number : ℕ) × (asked ≡ Err number) × (row ≡ row_of 3 (ledger_value_text number))

-- ---- the entries

-- the file was read whole and is a backup of these entries, or has a ledger with them
abbrev pub GivesOfFile : EntryFile → Reading → List LedgerEntry → Type 0
GivesOfFile Backup r entries = (text : List ℕ) × ReadsWhole r text × IsBackupOf text entries
GivesOfFile Ledger r entries =
    (places : List (Option LedgerEntry)) × ReadsLedger r places × (entries ≡ held_entries places)

-- it gives no backup: it wasn't read whole, or is none; or memory was out for it or for what is said of it
pub data LacksBackupFile (r : Reading) : Row → Type 0 where
  backup_unread : (fault : InputFault) → Lacks r fault → LacksBackupFile r (input_row fault)
  no_backup_there : (text : List ℕ) (row : Row) → ReadsWhole r text → LacksBackup text row → LacksBackupFile r row
  backup_unkept : (text : List ℕ) → ReadsWhole r text → LacksBackupFile r memory_row

abbrev pub LacksOfFile : EntryFile → Reading → Row → Type 0
LacksOfFile Backup r row = LacksBackupFile r row
LacksOfFile Ledger r row = LacksLedgerFile r row

-- these are the entries that a ledger is to take over: the one of the arguments, or all of a file that was read whole
abbrev pub GivesEntries : AdoptTask → List Reading → List LedgerEntry → Type 0
GivesEntries (adopt.One entry) files entries = (files ≡ []) × (entries ≡ entry ∷ [])
GivesEntries (adopt.All kind) files entries = (r : Reading) × (files ≡ r ∷ []) × GivesOfFile kind r entries

-- there are none, and the row that says why: no memory, or the file gives none
pub data LacksEntries (asked : AdoptTask) (files : List Reading) : Row → Type 0 where
  unroomed : files ≡ [] → LacksEntries asked files memory_row
  no_other : (kind : EntryFile) (r : Reading) (row : Row) → asked ≡ adopt.All kind → files ≡ r ∷ []
      → LacksOfFile kind r row → LacksEntries asked files row

-- ---- the disk

abbrev pub no_ledger_disk_row : Row
no_ledger_disk_row = cause_row (codes "no disk")

-- the row of a disk without a ledger: 10 if it failed, 9 and the cause, or 7 if memory was out
abbrev pub IsLedgerRow : NoLedgerCause → Row → Type 0
IsLedgerRow (Store fault) row = IsStoreRow fault row
IsLedgerRow (BadEntry bad) row = (row ≡ bad_entry_row bad) ⊎ (row ≡ memory_row)

-- why a disk gives no ledger, by what was known of it before and after. If none may be made there it was only read,
-- and a blank disk gives none.
abbrev pub LacksAsked : Bool → DiskState → DiskState → NoLedgerCause → Type 0
LacksAsked true before after cause = LacksLedger before after cause
LacksAsked false before after cause = LacksStanding before after cause

abbrev pub RefusesLedger : Bool → DiskState → DiskState → Row → Type 0
RefusesLedger may before after row =
    (cause : NoLedgerCause) × LacksAsked may before after cause × IsLedgerRow cause row

-- the disk isn't blank, if it tells its bytes
abbrev pub IsNotBlank : DiskState → Type 0
IsNotBlank disk = (t : Told) → disk.told ≡ Some t → HasNoHeader t.bytes → ⊥

-- a ledger that is to take over entries, of which none was refused yet
abbrev pub first_keeper : LedgerState → Bool → KeeperState
first_keeper ledger strict = record { ledger = ledger; strict = strict; refused = false }

-- The ledger of the disk was opened, and taking over these entries ends so. If none may be made it stood there.
pub record AdoptsInto (may strict : Bool) (entries : List LedgerEntry) (e : Ending) (old new : DiskState)
    : Type 0 where
  pub opened : LedgerState
  pub left : KeeperState
  pub opens : LedgerOpened old opened
  pub stood : may ≡ false → IsNotBlank old
  pub ends : EndsAdopting (first_keeper opened strict) entries left e
  pub handed_back : new ≡ left.ledger.store.disk

-- how it ends over a disk: in a row, or in lines
pub data EndsOnLedger (may strict : Bool) (entries : List LedgerEntry) (e : Ending) (old new : DiskState)
    : Type 0 where
  not_opened : EndsInRow (RefusesLedger may old new) e → EndsOnLedger may strict entries e old new
  adopts_into : AdoptsInto may strict entries e old new → EndsOnLedger may strict entries e old new

-- how it ends over these disks: in the row if there is none, or over the first; the others are as before
pub data EndsOverLedgers (may strict : Bool) (entries : List LedgerEntry) (e : Ending)
    (before after : List DiskState) : Type 0 where
  without_disk : before ≡ [] → after ≡ [] → EndsInRow (λ row. row ≡ no_ledger_disk_row) e
      → EndsOverLedgers may strict entries e before after
  on_first_disk : (old new : DiskState) (others : List DiskState) → before ≡ old ∷ others → after ≡ new ∷ others
      → EndsOnLedger may strict entries e old new → EndsOverLedgers may strict entries e before after
