-- What is listed of the rows of a unit and slot (own)
use Rattle.std.specs.Prelude.{◌≡◌, ◌==◌, ◌&&◌, not, ℕ, Bool, true, false, List, filter}
use Rattle.std.specs.List.{list_any}
use Rattle.std.specs.List.Sorted.{IsPermutation}
use Rattle.ledger_rows.specs.declared.kinds.RowKind.{RowKind}
use Rattle.ledger_rows.specs.declared.kinds.RowKind.TheVariants.{Issued, Confirmed, Failed, Imported, Raised}
use Rattle.ledger_rows.specs.declared.kinds.SlotRow.{SlotRow}
use Rattle.ledger_rows.specs.declared.lists.ListKind.{ListKind}
use Rattle.ledger_rows.specs.declared.lists.ListKind.TheVariants.{History, Open}

abbrev pub says_issued : RowKind → Bool
says_issued Issued = true
says_issued Confirmed = false
says_issued Failed = false
says_issued Imported = false
says_issued Raised = false

abbrev pub says_confirmed : RowKind → Bool
says_confirmed Issued = false
says_confirmed Confirmed = true
says_confirmed Failed = false
says_confirmed Imported = false
says_confirmed Raised = false

-- the row confirms the update with this counter
abbrev pub confirms_counter : ℕ → SlotRow → Bool
confirms_counter counter row = says_confirmed row.kind && (row.counter == counter)

-- the row of a request that was issued, and that none of the rows confirms
abbrev pub is_unconfirmed : List SlotRow → SlotRow → Bool
is_unconfirmed rows row = says_issued row.kind && not (list_any (confirms_counter row.counter) rows)

-- all rows, or exactly those that were issued and not confirmed, in some order
abbrev pub ListsRows : ListKind → List SlotRow → List SlotRow → Type 0
ListsRows History rows listed = IsPermutation rows listed
ListsRows Open rows listed =
    (order : List SlotRow) × IsPermutation rows order × (listed ≡ filter (is_unconfirmed rows) order)
