-- What is read of the rows that a query shows (own)
use Rattle.std.specs.Prelude.{ℕ, Option}
use Rattle.std.specs.Option.{option_and_then}
use Rattle.sqlite_value.specs.Order.{Row, column}
use Rattle.ledger_rows.specs.declared.kinds.SlotRow.{SlotRow}
use Rattle.ledger_tables.specs.Held.{number_held, slot_row_in}
use Rattle.ledger_tables.specs.Failing.{IsWholeRow}

-- what decides a command, of the columns slot, counter, what and kcv as they are shown
abbrev pub shown_slot_row : Row → Option SlotRow
shown_slot_row shown =
    option_and_then (λ (_ : ℕ). slot_row_in (column shown 1) (column shown 2) (column shown 3))
    (number_held (column shown 0))

-- these columns are those of a ledger's row
abbrev pub IsShownWhole : Row → Type 0
IsShownWhole shown = IsWholeRow (column shown 0) (column shown 1) (column shown 2) (column shown 3)
