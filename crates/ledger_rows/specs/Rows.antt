-- The rows of a station's ledger (own; a UID, a slot and a counter are those of the SHE specification)
use Rattle.std.specs.Prelude.{ℕ, Bool, List, [], ◌∷◌, filter, map, max}
use Rattle.key_campaign.specs.Entries.{same_slot}
use Rattle.ledger_rows.specs.declared.kinds.RowKind.{RowKind}
use Rattle.ledger_rows.specs.declared.kinds.SlotRow.{SlotRow}

-- who entered a row, and when, as the caller says it
pub record RowOrigin : Type 0 where
  pub station : List ℕ
  pub operator : List ℕ
  pub time : List ℕ

pub record LedgerRow : Type 0 where
  pub uid : List ℕ
  pub id : ℕ
  pub counter : ℕ
  pub kind : RowKind
  -- the check value of the key
  pub check : List ℕ
  -- the authorising slot
  pub auth : ℕ
  pub origin : RowOrigin

-- the row is of this unit and slot
abbrev pub is_row_of : List ℕ → ℕ → LedgerRow → Bool
is_row_of uid id row = same_slot uid id row.uid row.id

-- what decides a command, of a row
abbrev pub slot_row : LedgerRow → SlotRow
slot_row row = record { counter = row.counter; kind = row.kind; check = row.check }

-- what decides a command for a unit and slot, of a ledger
abbrev pub slot_rows : List ℕ → ℕ → List LedgerRow → List SlotRow
slot_rows uid id rows = map slot_row (filter (is_row_of uid id) rows)

-- the greatest counter, 0 if there is no row
abbrev pub greatest_in : List SlotRow → ℕ
greatest_in [] = 0
greatest_in (row ∷ rows) = max row.counter (greatest_in rows)

-- the greatest counter of a unit and slot
abbrev pub last_counter : List ℕ → ℕ → List LedgerRow → ℕ
last_counter uid id rows = greatest_in (slot_rows uid id rows)
