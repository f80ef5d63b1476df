-- What a command adds to the rows of a ledger (own; updates, their pairs of slots and their replies are those of the
-- SHE specification)
use Rattle.std.specs.Prelude.{◌≡◌, ◌≢◌, ◌↔◌, ℕ, ◌+◌, ◌<◌, ◌≤◌, Bool, true, false, Option, None, Some, List, [], ◌∷◌, replicate, All, Any}
use Rattle.std.specs.List.Sorted.{IsPermutation}
use Rattle.key_slots.specs.Authority.{is_pair}
use Rattle.key_campaign.specs.declared.commands.Issue.{Issue}
use Rattle.key_campaign.specs.declared.commands.Confirm.{Confirm}
use Rattle.key_campaign.specs.declared.lines.LedgerRefusal.{LedgerRefusal}
use Rattle.key_campaign.specs.declared.lines.LedgerRefusal.TheVariants as refusal
use Rattle.key_campaign.specs.Entries.{greatest_counter}
use Rattle.key_campaign.specs.Steps.{ConfirmsWith}
use Rattle.ledger_rows.specs.declared.kinds.RowKind.{RowKind}
use Rattle.ledger_rows.specs.declared.kinds.RowKind.TheVariants.{Issued, Confirmed, Failed, Raised}
use Rattle.ledger_rows.specs.declared.kinds.SlotRow.{SlotRow}
use Rattle.ledger_rows.specs.declared.remarks.Remark.{Remark}
use Rattle.ledger_rows.specs.declared.remarks.RemarkKind.{RemarkKind}
use Rattle.ledger_rows.specs.declared.remarks.RemarkKind.TheVariants.{Raise, Fail}
use Rattle.ledger_rows.specs.declared.remarks.RemarkRefusal.{RemarkRefusal}
use Rattle.ledger_rows.specs.declared.remarks.RemarkRefusal.TheVariants as unsaid
use Rattle.ledger_rows.specs.Check.{key_check}
use Rattle.ledger_rows.specs.Rows.{RowOrigin, LedgerRow, slot_rows, greatest_in, last_counter}

-- the rows are those of before and this one, in any order
abbrev pub AddsRow : LedgerRow → List LedgerRow → List LedgerRow → Type 0
AddsRow row old new = IsPermutation (row ∷ old) new

-- ---- an issue

abbrev pub issued_row : Issue → RowOrigin → ℕ → LedgerRow
issued_row i origin counter = record {
  uid = i.uid;
  id = i.id;
  counter = counter;
  kind = Issued;
  check = key_check i.key;
  auth = i.auth;
  origin = origin;
}

-- a row with the next counter is added
pub record IssuesRow (i : Issue) (origin : RowOrigin) (counter : ℕ) (old new : List LedgerRow) : Type 0 where
  pub pair : is_pair i.id i.auth ≡ true
  pub next : counter ≡ last_counter i.uid i.id old + 1
  pub fits : counter ≤ greatest_counter
  pub adds : AddsRow (issued_row i origin counter) old new

-- the refusals of an issue, each if none before it applies
abbrev pub RefusesRow : List LedgerRow → Issue → LedgerRefusal → Type 0
RefusesRow rows i refusal.BadPair = is_pair i.id i.auth ≡ false
RefusesRow rows i refusal.Spent = (is_pair i.id i.auth ≡ true) × (greatest_counter ≤ last_counter i.uid i.id rows)
RefusesRow rows i _ = ⊥

-- ---- a confirmation

-- the reply answers the request of this row: the check value is that of the key, and the reply confirms the update
-- with the row's counter and the key
pub record AnswersRow (k : Confirm) (row : SlotRow) : Type 0 where
  pub issued : row.kind ≡ Issued
  pub check : row.check ≡ key_check k.key
  pub confirms : ConfirmsWith k row.counter

-- this counter was confirmed
abbrev pub HasConfirmed : ℕ → List SlotRow → Type 0
HasConfirmed counter rows = Any (λ row. (row.kind ≡ Confirmed) × (row.counter ≡ counter)) rows

abbrev pub confirmed_row : Confirm → RowOrigin → ℕ → LedgerRow
confirmed_row k origin counter = record {
  uid = k.uid;
  id = k.id;
  counter = counter;
  kind = Confirmed;
  check = key_check k.key;
  auth = k.auth;
  origin = origin;
}

-- a row is added for a request that the reply answers, and that wasn't confirmed
pub record ConfirmsRow (k : Confirm) (origin : RowOrigin) (counter : ℕ) (old new : List LedgerRow) : Type 0 where
  pub answers : Any (λ row. AnswersRow k row × (row.counter ≡ counter)) (slot_rows k.uid k.id old)
  pub unconfirmed : ¬ HasConfirmed counter (slot_rows k.uid k.id old)
  pub adds : AddsRow (confirmed_row k origin counter) old new

-- the refusals of a confirmation: nothing was issued, the reply answers no request, or what it answers was confirmed
abbrev pub RefusesAnswer : List SlotRow → Confirm → LedgerRefusal → Type 0
RefusesAnswer rows k refusal.Unknown = All (λ row. ¬ (row.kind ≡ Issued)) rows
RefusesAnswer rows k refusal.NotConfirmed =
    Any (λ row. row.kind ≡ Issued) rows × All (λ row. ¬ AnswersRow k row) rows
RefusesAnswer rows k refusal.AlreadyConfirmed = Any (λ row. AnswersRow k row × HasConfirmed row.counter rows) rows
RefusesAnswer rows k _ = ⊥

-- ---- what an operator says of a counter

-- a request with this counter was issued
abbrev pub HasIssued : ℕ → List SlotRow → Type 0
HasIssued counter rows = Any (λ row. (row.kind ≡ Issued) × (row.counter ≡ counter)) rows

-- a raised counter is above the last one; a load that failed was issued, and wasn't confirmed
abbrev pub MayRemark : RemarkKind → ℕ → List SlotRow → Type 0
MayRemark Raise counter rows = greatest_in rows < counter
MayRemark Fail counter rows = HasIssued counter rows × (¬ HasConfirmed counter rows)

-- the refusals of a remark: the last counter if the raised one isn't above it; and nothing with the counter was issued,
-- or it was confirmed
abbrev pub RefusesRemark : RemarkKind → ℕ → List SlotRow → RemarkRefusal → Type 0
RefusesRemark Raise counter rows (unsaid.Behind last) = (last ≡ greatest_in rows) × (counter ≤ last)
RefusesRemark Fail counter rows unsaid.Unknown = ¬ HasIssued counter rows
RefusesRemark Fail counter rows unsaid.AlreadyConfirmed = HasIssued counter rows × HasConfirmed counter rows
RefusesRemark _ counter rows _ = ⊥

abbrev pub remarked_kind : RemarkKind → RowKind
remarked_kind Raise = Raised
remarked_kind Fail = Failed

-- a row without a key: its check value is zeros, and its authorising slot the slot itself
abbrev pub remarked_row : Remark → RowOrigin → LedgerRow
remarked_row r origin = record {
  uid = r.uid;
  id = r.id;
  counter = r.counter;
  kind = remarked_kind r.kind;
  check = replicate 3 0;
  auth = r.id;
  origin = origin;
}

-- a row with this counter is added
pub record RemarksRow (r : Remark) (origin : RowOrigin) (counter : ℕ) (old new : List LedgerRow) : Type 0 where
  pub is : counter ≡ r.counter
  pub may : MayRemark r.kind r.counter (slot_rows r.uid r.id old)
  pub adds : AddsRow (remarked_row r origin) old new

-- ---- a look

-- what is shown of the rows of a unit and slot: nothing exactly if there is no row, or the greatest counter, and whether
-- it was confirmed
abbrev pub IsShown : List SlotRow → Option (ℕ × Bool) → Type 0
IsShown rows None = rows ≡ []
IsShown rows (Some (counter, confirmed)) =
    (rows ≢ []) × (counter ≡ greatest_in rows) × ((confirmed ≡ true) ↔ HasConfirmed counter rows)
