-- The rows of arguments that ask for nothing
use Rattle.std.specs.Prelude.{◌≡◌, ℕ, Option, Some, None, Result, Ok, Err}
use Rattle.program_edge.specs.Rows.{Row, row_of}
use Rattle.ledger_commands.specs.declared.tasks.ReadTask.{ReadTask}
use Rattle.ledger_commands.specs.LedgerRows.{ledger_usage, ledger_value_text}

-- the row of arguments that are malformed, or have a wrong value
abbrev pub IsNoTask : Option (Result ReadTask ℕ) → Row → Type 0
IsNoTask None row = row ≡ row_of 2 ledger_usage
IsNoTask (Some (Ok task)) row = ⊥
IsNoTask (Some (Err number)) row = row ≡ row_of 3 (ledger_value_text number)

-- the task of values, or the row that names the first wrong one
abbrev pub GivesTask : Result ReadTask ℕ → Result ReadTask Row → Type 0
GivesTask asked (Ok task) = asked ≡ Ok task
GivesTask asked (Err row) = (number : ℕ) × (asked ≡ Err number) × (row ≡ row_of 3 (ledger_value_text number))
