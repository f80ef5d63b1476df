-- The ledger that a table holds (own; a row's values are SQLite's)
use Rattle.std.specs.Prelude.{◌≡◌, ℕ, pos, negsuc, false, Option, None, Some, List, filter_map, option_map, unwrap_or}
use Rattle.std.specs.Option.{option_and_then}
use Rattle.sqlite_value.specs.declared.value.Value.{Value}
use Rattle.sqlite_value.specs.declared.value.Value.TheVariants.{Null, Int, Real, Text, Blob}
use Rattle.sqlite_value.specs.Order.{Row, column, bytes}
use Rattle.sqlite.specs.State.{State}
use Rattle.ledger_rows.specs.declared.kinds.SlotRow.{SlotRow}
use Rattle.ledger_rows.specs.Kinds.{row_kind_of}
use Rattle.ledger_rows.specs.Rows.{RowOrigin, LedgerRow}
use Rattle.ledger_tables.specs.Table.{ledger_schema}

-- ---- what a value reads as

abbrev pub number_held : Value → Option ℕ
number_held Null = None
number_held (Int (pos n)) = Some n
number_held (Int (negsuc n)) = None
number_held (Real x) = None
number_held (Text t) = None
number_held (Blob b) = None

abbrev pub text_held : Value → Option (List ℕ)
text_held Null = None
text_held (Int n) = None
text_held (Real x) = None
text_held (Text t) = Some t
text_held (Blob b) = None

abbrev pub blob_held : Value → Option (List ℕ)
blob_held Null = None
blob_held (Int n) = None
blob_held (Real x) = None
blob_held (Text t) = None
blob_held (Blob b) = Some b

-- ---- a row

-- what decides a command, of the columns counter, what and kcv
abbrev pub slot_row_in : Value → Value → Value → Option SlotRow
slot_row_in counter what kcv =
    option_and_then (λ n. option_and_then (λ word. option_and_then (λ kind. option_map (λ check.
    record { counter = n; kind = kind; check = check }) (blob_held kcv)) (row_kind_of word)) (text_held what))
    (number_held counter)

-- the row of a ledger, of the columns uid and slot, of what these decide, of the authorising slot and of the origin
abbrev pub ledger_row_in : Value → Value → Option SlotRow → ℕ → RowOrigin → Option LedgerRow
ledger_row_in uid slot it auth origin =
    option_and_then (λ u. option_and_then (λ n. option_map (λ (s : SlotRow).
    record { uid = u; id = n; counter = s.counter; kind = s.kind; check = s.check; auth = auth; origin = origin }) it)
    (number_held slot)) (blob_held uid)

-- the station, the operator and the time of a row
abbrev pub origin_in : Row → RowOrigin
origin_in row = record { station = bytes (column row 7); operator = bytes (column row 8); time = bytes (column row 9) }

-- the row of a ledger that a row of the table stands for, if its values are of their types and its word names a kind
abbrev pub entry_in : Row → Option LedgerRow
entry_in row =
    ledger_row_in (column row 1) (column row 2) (slot_row_in (column row 3) (column row 4) (column row 5))
    (unwrap_or (number_held (column row 6)) 0) (origin_in row)

-- ---- the ledger

abbrev pub ledger_of : List Row → List LedgerRow
ledger_of rows = filter_map entry_in rows

-- the ledger that a connection sees
abbrev pub ledger_in : State → List LedgerRow
ledger_in s = ledger_of (s.now.trees 0)

-- the file has the table of a ledger and nothing else, and nothing waits for a commit
pub record HasLedgerTable (s : State) : Type 0 where
  pub schema : s.now.schema ≡ ledger_schema
  pub alone : s.in_transaction ≡ false
  pub settled : s.committed ≡ s.now
