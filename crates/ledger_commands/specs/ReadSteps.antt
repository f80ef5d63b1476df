-- What the steps of reading say to one another
use Rattle.std.specs.Prelude.{◌≡◌, ℕ, ◌++◌, Bool, Option, Result, Ok, Err, List, [], ◌∷◌, length, take, map}
use Rattle.std.specs.List.{flat_map, list_all}
use Rattle.bus_port.specs.Source.{SourceState}
use Rattle.program_edge.specs.NamedSources.{Openings}
use Rattle.program_edge.specs.Inputs.{Reading}
use Rattle.program_edge.specs.Rows.{Row, memory_row}
use Rattle.program_edge.specs.Endings.{Ending, EndsInRow}
use Rattle.key_campaign.specs.declared.entries.LedgerEntry.{LedgerEntry}
use Rattle.ledger_commands.specs.declared.tasks.ReadTask.{ReadTask}
use Rattle.ledger_commands.specs.LedgerTasks.{ledgers_named}
use Rattle.ledger_commands.specs.LedgerRows.{ReadsLedger, ReadsLedgers, LacksLedgerFile, task_text, is_found}
use Rattle.ledger_commands.specs.LedgerRows.{answers_row}
use Rattle.ledger_commands.specs.Named.{AllNamed, OverAllNamed}

-- the file was read whole and has a ledger, and what the task comes to was added
abbrev pub AnswersLedger : ReadTask → Reading → List ℕ → List ℕ → Bool → Type 0
AnswersLedger asked r before after found =
    (places : List (Option LedgerEntry)) × ReadsLedger r places
    × (after ≡ before ++ task_text asked places) × (found ≡ is_found asked places)

-- the files of these arguments have these ledgers, and this is what the task comes to over them
pub record AllAnswered (asked : ReadTask) (files : List Reading) (text : List ℕ) (found : Bool) : Type 0 where
  pub ledgers : List (List (Option LedgerEntry))
  pub reads : ReadsLedgers files ledgers
  pub text_is : text ≡ flat_map (task_text asked) ledgers
  pub found_is : found ≡ list_all (is_found asked) ledgers

-- the last of the files has no ledger, for the cause of this row
pub record LastLacks (files : List Reading) (row : Row) : Type 0 where
  pub front : List Reading
  pub ledgers : List (List (Option LedgerEntry))
  pub last : Reading
  pub reads : ReadsLedgers front ledgers
  pub lacks : LacksLedgerFile last row
  pub files_are : files ≡ front ++ last ∷ []

abbrev pub HasPushed : ReadTask → ℕ → ℕ → List ℕ → Result Bool Row → List Reading → Type 0
HasPushed asked all number text (Ok found) files = (number ≡ all) × AllAnswered asked files text found
HasPushed asked all number text (Err row) files = LastLacks files row

-- the first of these arguments were opened and read: all of them, or those up to the first without a ledger
pub record PushesLedgers (opens : List ℕ → SourceState → Type 0) (before after : Openings) (asked : ReadTask)
    (words : List (List ℕ)) (left : List SourceState) (text : List ℕ) (result : Result Bool Row) : Type 0 where
  pub files : List Reading
  pub number : ℕ
  pub named : AllNamed opens before (take number words) files after
  pub left_is : map (λ r. r.after) files ≡ left
  pub has : HasPushed asked (length words) number text result files

-- the rows of reading these files for a task over so many ledgers
pub data ComesOfReading (asked : ReadTask) (all : ℕ) (files : List Reading) : Row → Type 0 where
  unroomed : files ≡ [] → ComesOfReading asked all files memory_row
  lacking : (row : Row) → LastLacks files row → ComesOfReading asked all files row
  answering : (ledgers : List (List (Option LedgerEntry))) → ReadsLedgers files ledgers → length ledgers ≡ all
      → ComesOfReading asked all files (answers_row asked ledgers)

-- how reading the ledgers that these arguments name ends
abbrev pub EndsReading : (List ℕ → SourceState → Type 0) → Openings → Openings → ReadTask → List (List ℕ)
    → List SourceState → Ending → Type 0
EndsReading opens before after asked words left e =
    OverAllNamed opens before after (ledgers_named asked words) left
    (λ files. EndsInRow (ComesOfReading asked (length (ledgers_named asked words)) files) e)
