-- What is done of a command of a shift, and what its line tells (own)
use Rattle.std.specs.Prelude.{◌≡◌, ℕ}
use Rattle.memory_update.specs.Messages.{Builds}
use Rattle.key_campaign.specs.Steps.{update_for}
use Rattle.sqlite_trees.specs.Tree.{Trees}
use Rattle.sqlite.specs.State.{State}
use Rattle.sqlite.specs.declared.error.Error.{Error}
use Rattle.ledger_rows.specs.Lists.{ListsRows}
use Rattle.ledger_rows.specs.Rows.{RowOrigin, slot_rows}
use Rattle.ledger_rows.specs.Steps.{IssuesRow, RefusesRow, ConfirmsRow, RefusesAnswer, RemarksRow, RefusesRemark, IsShown}
use Rattle.ledger_tables.specs.Held.{ledger_of, ledger_in}
use Rattle.ledger_tables.specs.Failing.{FailsToIssue, FailsToConfirm, FailsToRemark, FailsToLook}
use Rattle.ledger_shift.specs.declared.line.ShiftLine.{ShiftLine}
use Rattle.ledger_shift.specs.declared.line.ShiftLine.TheVariants as ask
use Rattle.ledger_shift.specs.declared.told.ShiftTold.{ShiftTold}
use Rattle.ledger_shift.specs.declared.told.ShiftTold.TheVariants as told

-- each outcome of a crash has the rows that are there
abbrev pub IsCommitted : State → Type 0
IsCommitted s = (left : Trees) → s.may_leave left → left ≡ s.now.trees

-- who enters rows, a command, and what is told of it: a row that was added is committed, and what is
-- refused changes nothing
abbrev pub AnswersAsk : RowOrigin → State → State → ShiftLine → ShiftTold → Type 0
AnswersAsk origin old new (ask.Issue i) (told.Issued counter request) =
    IssuesRow i origin counter (ledger_in old) (ledger_in new) × Builds request i.authkey (update_for i counter)
    × IsCommitted new
AnswersAsk origin old new (ask.Issue i) (told.Refused why) = RefusesRow (ledger_in old) i why × (new.now ≡ old.now)
AnswersAsk origin old new (ask.Confirm k) (told.Confirmed counter) =
    ConfirmsRow k origin counter (ledger_in old) (ledger_in new) × IsCommitted new
AnswersAsk origin old new (ask.Confirm k) (told.Refused why) =
    RefusesAnswer (slot_rows k.uid k.id (ledger_in old)) k why × (new.now ≡ old.now)
AnswersAsk origin old new (ask.Remark r) (told.Remarked kind counter) =
    (kind ≡ r.kind) × RemarksRow r origin counter (ledger_in old) (ledger_in new) × IsCommitted new
AnswersAsk origin old new (ask.Remark r) (told.Unremarked why) =
    RefusesRemark r.kind r.counter (slot_rows r.uid r.id (ledger_in old)) why × (new.now ≡ old.now)
AnswersAsk origin old new (ask.Show uid id) (told.Shown it) =
    IsShown (slot_rows uid id (ledger_in old)) it × (new.now ≡ old.now)
AnswersAsk origin old new (ask.List kind uid id) (told.Listed rows) =
    ListsRows kind (slot_rows uid id (ledger_in old)) rows.items × (new.now ≡ old.now)
AnswersAsk origin old new _ _ = ⊥

-- why a command isn't answered
abbrev pub FailsAsk : RowOrigin → State → State → ShiftLine → Error → Type 0
FailsAsk origin old new (ask.Issue i) e = FailsToIssue i origin old new e
FailsAsk origin old new (ask.Confirm k) e = FailsToConfirm k origin old new e
FailsAsk origin old new (ask.Remark r) e = FailsToRemark r origin old new e
FailsAsk origin old new (ask.List kind uid id) e = FailsToLook uid id old new e
FailsAsk origin old new (ask.Show uid id) e = FailsToLook uid id old new e
FailsAsk origin old new _ e = ⊥

-- what a crash in a command may leave that wasn't there before: the row that it adds
abbrev pub MayAddRow : RowOrigin → State → ShiftLine → Trees → Type 0
MayAddRow origin old (ask.Issue i) left =
    (counter : ℕ) × IssuesRow i origin counter (ledger_in old) (ledger_of (left 0))
MayAddRow origin old (ask.Confirm k) left =
    (counter : ℕ) × ConfirmsRow k origin counter (ledger_in old) (ledger_of (left 0))
MayAddRow origin old (ask.Remark r) left =
    (counter : ℕ) × RemarksRow r origin counter (ledger_in old) (ledger_of (left 0))
MayAddRow origin old _ left = ⊥
