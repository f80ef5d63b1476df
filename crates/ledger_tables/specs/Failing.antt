-- Why a call over a ledger's file fails, and what it leaves (own; a fault of the store, what SQL takes for equal, and
-- the number of a row are SQLite's)
use Rattle.std.specs.Prelude.{◌≡◌, ◌⊎◌, ℕ, ◌≤◌, pos, true, false, Some, List, [], ◌∷◌, length, IsSome, IsTrue, Any}
use Rattle.std.specs.Ordering.{is_eq}
use Rattle.key_campaign.specs.declared.commands.Issue.{Issue}
use Rattle.key_campaign.specs.declared.commands.Confirm.{Confirm}
use Rattle.key_campaign.specs.Entries.{greatest_counter}
use Rattle.sqlite_value.specs.declared.value.Value.{Value}
use Rattle.sqlite_value.specs.declared.value.Value.TheVariants.{Null, Int, Text, Blob}
use Rattle.sqlite_value.specs.declared.keys.Collation.TheVariants.{Binary}
use Rattle.sqlite_value.specs.Order.{Row, column, value_cmp}
use Rattle.sqlite_trees.specs.Tree.{rowid}
use Rattle.sqlite_trees.specs.declared.error.StoreError.{StoreError}
use Rattle.sqlite_schema.specs.declared.schema.Constraint.TheVariants.{PrimaryKey}
use Rattle.sqlite_schema.specs.Rules.{equal}
use Rattle.sqlite_rules.specs.Edit.{next_rowid, IsOversized}
use Rattle.sqlite_sql.specs.Ops.{fits_i64}
use Rattle.sqlite.specs.declared.error.ErrorCode.TheVariants as code
use Rattle.sqlite.specs.declared.error.Error.{Error}
use Rattle.sqlite.specs.declared.error.Error.TheVariants.{SqliteFailure}
use Rattle.sqlite.specs.State.{State, HasCause, store_error}
use Rattle.ledger_rows.specs.declared.kinds.SlotRow.{SlotRow}
use Rattle.ledger_rows.specs.declared.remarks.Remark.{Remark}
use Rattle.ledger_rows.specs.Kinds.{row_word}
use Rattle.ledger_rows.specs.Rows.{RowOrigin, LedgerRow}
use Rattle.ledger_rows.specs.Steps.{issued_row, confirmed_row, remarked_row}
use Rattle.ledger_tables.specs.Table.{entry_table, ledger_schema}
use Rattle.ledger_tables.specs.Held.{HasLedgerTable, number_held, slot_row_in}

-- no memory, a fault that the file counted, or a connection that is shut
abbrev pub StoreFailed : State → State → Error → Type 0
StoreFailed old new e = (cause : StoreError) × (e ≡ store_error cause) × HasCause old new ⊥ cause

-- a query that gave up under a limit on its steps
abbrev pub GaveUp : State → Error → Type 0
GaveUp old e = (e ≡ SqliteFailure code.OperationInterrupted) × IsSome old.step_limit

-- ---- a row that isn't a ledger's

-- the columns slot, counter, what and kcv have a slot, a counter of 28 bits, a word and three bytes
pub record IsWholeRow (slot counter what kcv : Value) : Type 0 where
  pub id : ℕ
  pub slot_is : number_held slot ≡ Some id
  pub row : SlotRow
  pub row_is : slot_row_in counter what kcv ≡ Some row
  pub counter_fits : row.counter ≤ greatest_counter
  pub check_fits : length row.check ≡ 3

-- SQL finds the row of the table for this unit and slot, and it isn't whole
pub record IsDamagedFor (uid : List ℕ) (id : ℕ) (row : Row) : Type 0 where
  pub unit : equal Binary (column row 1) (Blob uid) ≡ true
  pub slot : equal Binary (column row 2) (Int (pos id)) ≡ true
  pub damaged : ¬ IsWholeRow (column row 2) (column row 3) (column row 4) (column row 5)

-- a look at the rows of a unit and slot fails
abbrev pub FailsToLook : List ℕ → ℕ → State → State → Error → Type 0
FailsToLook uid id old new e =
    StoreFailed old new e
    ⊎ (GaveUp old e ⊎ ((e ≡ SqliteFailure code.DatabaseCorrupt) × Any (IsDamagedFor uid id) (old.now.trees 0)))

-- ---- a row that can't be added

-- the row of the table for a row of the ledger, under the number after the last
abbrev pub table_row : LedgerRow → List Row → Row
table_row it rows =
    Int (next_rowid rows) ∷ Blob it.uid ∷ Int (pos it.id) ∷ Int (pos it.counter) ∷ Text (row_word it.kind)
    ∷ Blob it.check ∷ Int (pos it.auth) ∷ Text it.origin.station ∷ Text it.origin.operator ∷ Text it.origin.time
    ∷ Null ∷ []

-- the row has about 10 ^ 9 bytes
abbrev pub IsTooLong : LedgerRow → State → Error → Type 0
IsTooLong it old e =
    (e ≡ SqliteFailure code.TooBig) × IsOversized ledger_schema entry_table (table_row it (old.now.trees 0))

-- the number after the last is taken, which no sound file has, or has more than 64 bits
abbrev pub HasNoNumber : State → Error → Type 0
HasNoNumber old e =
    ((e ≡ SqliteFailure (code.ConstraintViolation PrimaryKey))
    × Any (λ r. is_eq (value_cmp (rowid r) (Int (next_rowid (old.now.trees 0)))) ≡ true) (old.now.trees 0))
    ⊎ ((e ≡ SqliteFailure code.NoRowid) × (fits_i64 (next_rowid (old.now.trees 0)) ≡ false))

abbrev pub FailsToAdd : LedgerRow → State → State → Error → Type 0
FailsToAdd it old new e = StoreFailed old new e ⊎ (GaveUp old e ⊎ (IsTooLong it old e ⊎ HasNoNumber old e))

-- ---- a verb

abbrev pub FailsToIssue : Issue → RowOrigin → State → State → Error → Type 0
FailsToIssue i origin old new e =
    FailsToLook i.uid i.id old new e ⊎ ((counter : ℕ) × FailsToAdd (issued_row i origin counter) old new e)

abbrev pub FailsToConfirm : Confirm → RowOrigin → State → State → Error → Type 0
FailsToConfirm k origin old new e =
    FailsToLook k.uid k.id old new e ⊎ ((counter : ℕ) × FailsToAdd (confirmed_row k origin counter) old new e)

abbrev pub FailsToRemark : Remark → RowOrigin → State → State → Error → Type 0
FailsToRemark r origin old new e = FailsToLook r.uid r.id old new e ⊎ FailsToAdd (remarked_row r origin) old new e

-- the connection is shut, or sees what it saw, and the ledger can be served
pub record IsUndone (old new : State) : Type 0 where
  pub same : IsTrue new.is_open → new.now ≡ old.now
  pub ready : IsTrue new.is_open → HasLedgerTable new
