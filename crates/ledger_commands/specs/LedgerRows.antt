-- The table of answers of `ledger` where it only reads: its rows, and when each comes
use Rattle.std.specs.Prelude.{◌≡◌, ℕ, ◌++◌, Bool, true, if◌then◌else◌, Option, Some, None, List, [], ◌∷◌, length}
use Rattle.std.specs.Prelude.{Result, Ok, Err, codes, is_some}
use Rattle.std.specs.List.{flat_map, list_all}
use Rattle.std.specs.Fmt.{decimal}
use Rattle.text_lines.specs.Texts.{line}
use Rattle.program_edge.specs.declared.input.InputFault.{InputFault}
use Rattle.program_edge.specs.Rows.{Row, row_of, input_row, memory_row}
use Rattle.program_edge.specs.Inputs.{Reading, ReadsWhole, Lacks}
use Rattle.key_campaign.specs.declared.entries.LedgerEntry.{LedgerEntry}
use Rattle.key_campaign.specs.Entries.{entry_for}
use Rattle.ledger_commands.specs.declared.tasks.ReadTask.{ReadTask}
use Rattle.ledger_commands.specs.declared.tasks.ReadTask.TheVariants as read
use Rattle.ledger_commands.specs.EntryTexts.{entry_lines, open_lines, backup_text, shown_text}
use Rattle.ledger_commands.specs.LedgerBytes.{HoldsLedger, NoLedgerIn}
use Rattle.ledger_commands.specs.LedgerTasks.{ledger_asked, ledgers_named}

-- the arguments after `ledger`, and what was known of the source of each file that was opened, in their order
pub record LedgerInputs : Type 0 where
  pub words : List (List ℕ)
  pub files : List Reading

abbrev pub ledger_usage : List ℕ
ledger_usage = line (codes "usage: station ledger list, open, show, export, adopt, import, merge")

abbrev pub ledger_value_text : ℕ → List ℕ
ledger_value_text number = line (codes "value " ++ decimal number)

-- ---- files

-- the file was read whole, and these are the places of its ledger
abbrev pub ReadsLedger : Reading → List (Option LedgerEntry) → Type 0
ReadsLedger r places = (x : List ℕ) × ReadsWhole r x × HoldsLedger x places

-- it gives no ledger: it wasn't read whole, or has none; or memory was out for it or for what is said of it
pub data LacksLedgerFile (r : Reading) : Row → Type 0 where
  unread : (fault : InputFault) → Lacks r fault → LacksLedgerFile r (input_row fault)
  none_there : (x : List ℕ) (row : Row) → ReadsWhole r x → NoLedgerIn x row → LacksLedgerFile r row
  unkept : (x : List ℕ) → ReadsWhole r x → LacksLedgerFile r memory_row

-- the files were read whole, one after the other, and these are the places of their ledgers
pub data ReadsLedgers : List Reading → List (List (Option LedgerEntry)) → Type 0 where
  no_files : ReadsLedgers [] []
  one_file_more : (files : List Reading) (ledgers : List (List (Option LedgerEntry))) (r : Reading)
      (places : List (Option LedgerEntry)) → ReadsLedgers files ledgers → ReadsLedger r places
      → ReadsLedgers (files ++ r ∷ []) (ledgers ++ places ∷ [])

-- ---- what a task comes to

-- what it prints of one ledger
abbrev pub task_text : ReadTask → List (Option LedgerEntry) → List ℕ
task_text read.List places = entry_lines places
task_text read.Open places = open_lines places
task_text read.Export places = backup_text places
task_text (read.Show uid id) places = shown_text uid id places

-- what it asks for is there: an entry, if it is `show`
abbrev pub is_found : ReadTask → List (Option LedgerEntry) → Bool
is_found read.List places = true
is_found read.Open places = true
is_found read.Export places = true
is_found (read.Show uid id) places = is_some (entry_for uid id places)

-- the row: 0, or 1 if what is asked for isn't there
abbrev pub answers_row : ReadTask → List (List (Option LedgerEntry)) → Row
answers_row asked ledgers =
    row_of (if list_all (is_found asked) ledgers then 0 else 1) (flat_map (task_text asked) ledgers)

-- ---- the table: when each row comes, with its status and text

pub data ComesOfLedgers (i : LedgerInputs) : Row → Type 0 where
  no_form : ledger_asked i.words ≡ None → i.files ≡ [] → ComesOfLedgers i (row_of 2 ledger_usage)
  bad_value : (number : ℕ) → ledger_asked i.words ≡ Some (Err number) → i.files ≡ []
      → ComesOfLedgers i (row_of 3 (ledger_value_text number))
  -- of the files after the one that gives no ledger none is opened
  no_ledger : (asked : ReadTask) (front : List Reading) (ledgers : List (List (Option LedgerEntry))) (r : Reading)
      (row : Row) → ledger_asked i.words ≡ Some (Ok asked) → ReadsLedgers front ledgers
      → LacksLedgerFile r row → i.files ≡ front ++ r ∷ [] → ComesOfLedgers i row
  no_room : (asked : ReadTask) → ledger_asked i.words ≡ Some (Ok asked) → i.files ≡ []
      → ComesOfLedgers i memory_row
  answered : (asked : ReadTask) (ledgers : List (List (Option LedgerEntry)))
      → ledger_asked i.words ≡ Some (Ok asked) → ReadsLedgers i.files ledgers
      → length ledgers ≡ length (ledgers_named asked i.words) → ComesOfLedgers i (answers_row asked ledgers)

-- the arguments that name the files: none if nothing is asked
abbrev pub words_asked : Option (Result ReadTask ℕ) → List (List ℕ) → List (List ℕ)
words_asked (Some (Ok asked)) words = ledgers_named asked words
words_asked other words = []

abbrev pub words_named : List (List ℕ) → List (List ℕ)
words_named words = words_asked (ledger_asked words) words
