-- The row that a call adds (own)
use Rattle.std.specs.Prelude.{ℕ, List}
use Rattle.ledger_rows.specs.Rows.{RowOrigin, LedgerRow}
use Rattle.ledger_tables.specs.declared.adding.NewRow.{NewRow}

abbrev pub origin_by : List ℕ → List ℕ → List ℕ → RowOrigin
origin_by station operator time = record { station = station; operator = operator; time = time }

abbrev pub row_of_new : NewRow → RowOrigin → LedgerRow
row_of_new row origin = record {
  uid = row.uid;
  id = row.id;
  counter = row.counter;
  kind = row.kind;
  check = row.check;
  auth = row.auth;
  origin = origin;
}
