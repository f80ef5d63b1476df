-- What `ledger list`, `open`, `show` and `export` promise
use Rattle.std.specs.Prelude.{◌≡◌, ◌⊎◌, ℕ, All, Any, Option, Some, None, List, [], length, Ok, Err, codes}
use Rattle.program_edge.specs.Inputs.{Reading, ReadsWhole, SourceFailed, CountsFault, GivesTooMuch, CountsTooMuch}
use Rattle.program_edge.specs.Inputs.{Offers}
use Rattle.program_edge.specs.Rows.{Row}
use Rattle.program_edge.specs.Endings.{Ending, EndsInRow, EndsIn, MayEndIn, PrintsWhole, PrintsFront}
use Rattle.program_edge.specs.Endings.{SinkFailed, CountsWriteFault}
use Rattle.key_campaign.specs.declared.entries.LedgerEntry.{LedgerEntry}
use Rattle.ledger_commands.specs.declared.tasks.ReadTask.{ReadTask}
use Rattle.ledger_commands.specs.LedgerBytes.{HoldsLedger, NoLedgerIn}
use Rattle.ledger_commands.specs.LedgerTasks.{ledger_asked, ledgers_named}
use Rattle.ledger_commands.specs.LedgerRows.{LedgerInputs, ledger_usage, ledger_value_text, ReadsLedgers, answers_row}
use Rattle.ledger_commands.specs.LedgerRows.{ComesOfLedgers}

-- a file was read whole and has no ledger, for the cause of this row
abbrev pub HasNoLedger : Row → Reading → Type 0
HasNoLedger row r = (x : List ℕ) × ReadsWhole r x × NoLedgerIn x row

-- its source tells the bytes of a ledger, or of none, and doesn't fail
abbrev pub OffersLedger : Reading → Type 0
OffersLedger r = (x : List ℕ) × (places : List (Option LedgerEntry)) × Offers r x × HoldsLedger x places

abbrev pub OffersNone : Reading → Type 0
OffersNone r = (x : List ℕ) × (row : Row) × Offers r x × NoLedgerIn x row

-- all the files were read, each has a ledger, and exactly what the task comes to is printed
abbrev pub AnswersLedgers : LedgerInputs → Ending → Type 0
AnswersLedgers i e =
    (asked : ReadTask) × (ledgers : List (List (Option LedgerEntry)))
    × (ledger_asked i.words ≡ Some (Ok asked)) × ReadsLedgers i.files ledgers
    × (length ledgers ≡ length (ledgers_named asked i.words)) × (e.status ≡ (answers_row asked ledgers).status)
    × PrintsWhole e (answers_row asked ledgers).text

-- what is promised of these arguments and files if it ends so, in the order of the table of answers
pub record ReadsLedgerFiles (i : LedgerInputs) (e : Ending) : Type 0 where
  -- The program prints a row of the table and ends with its status, or at 6 a prefix of one.
  pub ends : EndsInRow (ComesOfLedgers i) e
  -- 0 and 1: each file that is named was read whole and has a ledger, and exactly what the task comes to was printed; 1
  -- exactly if it is `show` and finds no entry.
  pub answered : (e.status ≡ 0) ⊎ (e.status ≡ 1) → AnswersLedgers i e
  -- 2: exactly if the arguments are malformed; 3: exactly if a value isn't of its form. Nothing was opened.
  pub usage : e.status ≡ 2 → (ledger_asked i.words ≡ None) × (i.files ≡ []) × PrintsWhole e ledger_usage
  pub usage_only : ledger_asked i.words ≡ None → EndsIn 2 e
  pub value : e.status ≡ 3 → (number : ℕ) × (ledger_asked i.words ≡ Some (Err number)) × (i.files ≡ [])
      × PrintsWhole e (ledger_value_text number)
  pub value_only : (number : ℕ) → ledger_asked i.words ≡ Some (Err number) → EndsIn 3 e
  -- 5: exactly if a source's count of faults rose; 8: exactly if one byte more than an input may have came from one.
  pub read_fault : e.status ≡ 5 → Any SourceFailed i.files × PrintsWhole e (codes "read fault\n")
  pub read_fault_only : Any CountsFault i.files → EndsIn 5 e
  pub too_long : e.status ≡ 8 → Any GivesTooMuch i.files × PrintsWhole e (codes "input too long\n")
  pub too_long_only : Any CountsTooMuch i.files → EndsIn 8 e
  -- 9: exactly if a file that was read whole has no ledger; the first cause of the first such file is printed.
  pub no_ledger : e.status ≡ 9 → (row : Row) × Any (HasNoLedger row) i.files × PrintsWhole e row.text
  pub no_ledger_only : Any OffersNone i.files → MayEndIn 9 e
  -- 6: exactly if the sink's count of faults rose; a prefix was written of a row that comes. 7: nothing was written.
  pub write_fault : e.status ≡ 6 → SinkFailed e × PrintsFront (ComesOfLedgers i) e
  pub write_fault_only : CountsWriteFault e → e.status ≡ 6
  pub no_memory : e.status ≡ 7 → PrintsWhole e []
  -- Ledgers that are named and told are read, if no port failed and there was memory.
  pub complete : (asked : ReadTask) → ledger_asked i.words ≡ Some (Ok asked) → All OffersLedger i.files
      → ¬ SinkFailed e → (e.status ≡ 0) ⊎ (e.status ≡ 1) ⊎ (e.status ≡ 7)
