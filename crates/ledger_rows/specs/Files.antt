-- All runs of a ledger's file, as one list of calls: what a crash leaves is what the next run finds (own)
use Rattle.std.specs.Prelude.{◌≡◌, ◌⊎◌, ℕ, ◌<◌, Option, None, Some, List, if◌then◌else◌, All, AllPairs, Any, Contains}
use Rattle.key_campaign.specs.declared.commands.Issue.{Issue}
use Rattle.key_campaign.specs.declared.commands.Confirm.{Confirm}
use Rattle.key_campaign.specs.Entries.{same_slot}
use Rattle.key_campaign.specs.Steps.{ConfirmsWith}
use Rattle.machine_runs.specs.Run.{Moment, Run}
use Rattle.ledger_rows.specs.declared.kinds.RowKind.TheVariants.{Confirmed}
use Rattle.ledger_rows.specs.declared.remarks.Remark.{Remark}
use Rattle.ledger_rows.specs.declared.remarks.RemarkKind.{RemarkKind}
use Rattle.ledger_rows.specs.declared.remarks.RemarkKind.TheVariants.{Raise, Fail}
use Rattle.ledger_rows.specs.Check.{key_check}
use Rattle.ledger_rows.specs.Rows.{RowOrigin, LedgerRow}
use Rattle.ledger_rows.specs.Steps.{IssuesRow, ConfirmsRow, RemarksRow}

-- a command that may add a row, with who asked for it
pub data RowCommand : Type 0 where
  IssueBy : Issue → RowOrigin → RowCommand
  ConfirmBy : Confirm → RowOrigin → RowCommand
  RemarkBy : Remark → RowOrigin → RowCommand

-- the command adds a row with this counter
abbrev pub AddsBy : List LedgerRow → RowCommand → ℕ → List LedgerRow → Type 0
AddsBy old (IssueBy i origin) counter new = IssuesRow i origin counter old new
AddsBy old (ConfirmBy k origin) counter new = ConfirmsRow k origin counter old new
AddsBy old (RemarkBy r origin) counter new = RemarksRow r origin counter old new

-- The answer is a counter, and its row was added. Without one, the command was refused, or it failed, or a crash cut it
-- short: then no row was added, or that of some counter.
abbrev pub FileStep : List LedgerRow → RowCommand → Option ℕ → List LedgerRow → Type 0
FileStep old command (Some counter) new = AddsBy old command counter new
FileStep old command None new = (new ≡ old) ⊎ ((counter : ℕ) × AddsBy old command counter new)

-- a command, its answer, and the rows after it
abbrev pub FileMoment : Type 0
FileMoment = Moment RowCommand (Option ℕ) (List LedgerRow)

-- all runs of a file have this
abbrev pub EachFile : (List LedgerRow → List FileMoment → List LedgerRow → Type 0) → Type 0
EachFile Claim = (start : List LedgerRow) (ms : List FileMoment) (last : List LedgerRow) → Run FileStep start ms last
    → Claim start ms last

-- the counter that a remark begins to use: that of a raise
abbrev pub raised_by : RemarkKind → Option ℕ → Option ℕ
raised_by Raise answer = answer
raised_by Fail answer = None

-- the counter that was issued or raised for this unit and slot, if one was answered
abbrev pub answered_for : List ℕ → ℕ → RowCommand → Option ℕ → Option ℕ
answered_for uid id (IssueBy i origin) answer = if same_slot uid id i.uid i.id then answer else None
answered_for uid id (ConfirmBy k origin) answer = None
answered_for uid id (RemarkBy r origin) answer = if same_slot uid id r.uid r.id then raised_by r.kind answer else None

-- of two counters that were answered for one unit and slot the later is greater
abbrev pub AnsweredCountersRise : List FileMoment → Type 0
AnsweredCountersRise = AllPairs (λ m n. (uid : List ℕ) (id counter later : ℕ)
    → answered_for uid id m.command m.line ≡ Some counter
    → answered_for uid id n.command n.line ≡ Some later → counter < later)

-- each row is still there
abbrev pub StillHasRows : List LedgerRow → List LedgerRow → Type 0
StillHasRows rows last = (row : LedgerRow) → Contains rows row → Contains last row

-- each row that was there at the start, or after one of the calls, is there at the end
abbrev pub NoRowGoes : List LedgerRow → List FileMoment → List LedgerRow → Type 0
NoRowGoes start ms last = StillHasRows start last × All (λ m. StillHasRows m.after last) ms

-- the command confirms this row, with a reply that confirms the update with its counter, and the key of its check value
abbrev pub CarriesAnswer : LedgerRow → RowCommand → Type 0
CarriesAnswer row (IssueBy i origin) = ⊥
CarriesAnswer row (RemarkBy r origin) = ⊥
CarriesAnswer row (ConfirmBy k origin) =
    (row.uid ≡ k.uid) × (row.id ≡ k.id) × (row.check ≡ key_check k.key) × ConfirmsWith k row.counter

-- a confirmed row was there at the start, or such a command came
abbrev pub ConfirmedByAnswer : List LedgerRow → List FileMoment → List LedgerRow → Type 0
ConfirmedByAnswer start ms last = (row : LedgerRow) → Contains last row → row.kind ≡ Confirmed
    → Contains start row ⊎ Any (λ m. CarriesAnswer row m.command) ms

abbrev pub FilesCountersRise : Type 0
FilesCountersRise = EachFile (λ start ms last. AnsweredCountersRise ms)

abbrev pub FilesKeepRows : Type 0
FilesKeepRows = EachFile NoRowGoes

abbrev pub FilesConfirmByAnswer : Type 0
FilesConfirmByAnswer = EachFile ConfirmedByAnswer
