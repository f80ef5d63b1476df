-- The phases of a run of `slots`, put together
use Rattle.std.proofs.Common.{◌≡◌, ◌⊎◌, ◌∙◌, ℕ, List, false, true, inl, inr, sym, subst}
use Rattle.std.specs.Prelude.{Bool, Result, Ok, Err, Vec, Some, None, IfOk, IfErr}
use Rattle.std.specs.declared.alloc.Global.{Global}
use Rattle.program_edge.specs.declared.input.InputFault.{InputFault}
use Rattle.program_edge.specs.Rows.{Row, row_of, input_row, memory_row}
use Rattle.program_edge.specs.Inputs.{IsUnread, ReadsWhole, Lacks}
use Rattle.program_edge.proofs.CallerLemmas.{Lacks-whole}
use Rattle.slot_commands.specs.declared.tasks.ReplyAsked.{ReplyAsked}
use Rattle.slot_commands.specs.declared.tasks.SlotTask.{SlotTask}
use Rattle.slot_commands.specs.declared.tasks.SlotTask.TheVariants as task
use Rattle.slot_commands.specs.SlotTasks.{slots_asked}
use Rattle.slot_commands.specs.Stores.{ListsStore, ChecksStore, NoStoreIn, IsUnreadable}
use Rattle.slot_commands.specs.Checked.{Checked}
use Rattle.slot_commands.specs.Replies.{RepliesFrom}
use Rattle.slot_commands.specs.SlotRows.{listed, not_listed, found_nothing, not_checked}
use Rattle.slot_commands.specs.SlotRows as rows
use Rattle.slot_commands.specs.SlotReads.{ReadsUnitStore}
use Rattle.slot_commands.proofs.Promises.{reads_row}
use Rattle.program_edge.specs.Endings.{Ending}
use Rattle.program_edge.specs.Told.{EndingTold}
use Rattle.slot_commands.specs.SlotRows.{SlotInputs, DoesSlotTask, ComesOfSlots, no_form, bad_value, no_file, no_memory, done, AnswersSlots}
use Rattle.slot_commands.specs.TaskSteps.{AnswersAsked}

-- words that ask for no task
pub words_refused : (i : SlotInputs) (row : Row) → AnswersAsked (slots_asked i.words) (Err row) → IsUnread i.file → ComesOfSlots i row
words_refused i row (inl (none, is)) unread = subst (ComesOfSlots i) (sym is) (no_form none unread)
words_refused i row (inr (number, wrong, is)) unread = subst (ComesOfSlots i) (sym is) (bad_value number wrong unread)

-- a file that gives no bytes
pub file_lacking : (i : SlotInputs) (asked : SlotTask) (fault : InputFault) (row : Row) → slots_asked i.words ≡ Some (Ok asked) → Lacks i.file fault
    → row ≡ input_row fault → ComesOfSlots i row
file_lacking i asked fault row asks lacks is = subst (ComesOfSlots i) (sym is) (no_file asked fault asks lacks)

-- what is done over its bytes
pub task_done : (i : SlotInputs) (asked : SlotTask) (x shown : List ℕ) (result : Result (Vec ℕ Global × ℕ) Row) → slots_asked i.words ≡ Some (Ok asked)
    → ReadsWhole i.file x → shown ≡ x → IfOk result (λ r. DoesSlotTask shown asked (row_of r.1 r.0.items))
    → IfErr result (λ row. DoesSlotTask shown asked row ⊎ (row ≡ memory_row)) → AnswersSlots i result
task_done i asked x shown (Ok (text, status)) asks whole is does not =
    done asked shown (row_of status text.items) (asks, subst (ReadsWhole i.file) (sym is) whole) does
task_done i asked x shown (Err row) asks whole is does (inl not) = done asked shown row (asks, subst (ReadsWhole i.file) (sym is) whole) not
task_done i asked x shown (Err row) asks whole is does (inr memory) =
    subst (ComesOfSlots i) (sym memory) (no_memory asked asks (Lacks-whole i.file x whole))

-- ---- a task

pub list_did : (x : List ℕ) (asked : SlotTask) (text : List ℕ) → asked ≡ task.List → ListsStore x text → DoesSlotTask x asked (row_of 0 text)
list_did x asked text same lists = subst (λ (k : SlotTask). DoesSlotTask x k (row_of 0 text)) (sym same) (listed text lists)

pub list_refused : (x : List ℕ) (asked : SlotTask) (row : Row) → asked ≡ task.List → IsUnreadable x row ⊎ (row ≡ memory_row)
    → DoesSlotTask x asked row ⊎ (row ≡ memory_row)
list_refused x asked row same (inl not) = inl (subst (λ (k : SlotTask). DoesSlotTask x k row) (sym same) (not_listed row not))
list_refused x asked row same (inr memory) = inr memory

pub check_good : (x : List ℕ) (asked : SlotTask) (text : List ℕ) (good : Bool) → asked ≡ task.Check → Checked None None x text good → good ≡ true
    → DoesSlotTask x asked (row_of 0 text)
check_good x asked text good same (findings, checks, decides) is =
    let none = decides.0 is in
    subst (λ (k : SlotTask). DoesSlotTask x k (row_of 0 text)) (sym same)
    (found_nothing text (subst (λ (f : List (List (List ℕ))). ChecksStore None None x f text) none checks))

pub check_bad : (x : List ℕ) (asked : SlotTask) (text : List ℕ) (good : Bool) → asked ≡ task.Check → Checked None None x text good → good ≡ false
    → DoesSlotTask x asked (row_of 1 text)
check_bad x asked text good same (findings, checks, decides) is =
    subst (λ (k : SlotTask). DoesSlotTask x k (row_of 1 text)) (sym same)
    (rows.found findings text (λ none. let clash : false ≡ true = sym is ∙ decides.1 none in cc clash) checks)

pub check_refused : (x : List ℕ) (asked : SlotTask) (row : Row) → asked ≡ task.Check → NoStoreIn x row ⊎ (row ≡ memory_row)
    → DoesSlotTask x asked row ⊎ (row ≡ memory_row)
check_refused x asked row same (inl none) = inl (subst (λ (k : SlotTask). DoesSlotTask x k row) (sym same) (not_checked row none))
check_refused x asked row same (inr memory) = inr memory

pub reply_did : (x : List ℕ) (asked : SlotTask) (a : ReplyAsked) (row : Row) → asked ≡ task.Reply a → RepliesFrom x a row → DoesSlotTask x asked row
reply_did x asked a row same replies = subst (λ (k : SlotTask). DoesSlotTask x k row) (sym same) (rows.replied a row replies)

pub reply_refused : (x : List ℕ) (asked : SlotTask) (a : ReplyAsked) (row : Row) → asked ≡ task.Reply a → RepliesFrom x a row ⊎ (row ≡ memory_row)
    → DoesSlotTask x asked row ⊎ (row ≡ memory_row)
reply_refused x asked a row same (inl replies) = inl (reply_did x asked a row same replies)
reply_refused x asked a row same (inr memory) = inr memory

-- ---- a run

-- what was told of a text that comes
pub told_row : (i : SlotInputs) (e : Ending) (status : ℕ) (items shown : List ℕ) → shown ≡ items → ComesOfSlots i (row_of status items)
    → EndingTold e.before e.after shown status e.status → ReadsUnitStore i e
told_row i e status items shown is comes told =
    reads_row i e
    (record { row = row_of status shown; comes = subst (λ (t : List ℕ). ComesOfSlots i (row_of status t)) (sym is) comes; told = told })
