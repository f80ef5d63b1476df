-- The table of answers of `slots` where it only reads: its rows, and when each comes
use Rattle.std.specs.Prelude.{◌≡◌, ◌≢◌, ℕ, ◌++◌, List, [], Some, None, Result, Ok, Err, Vec, codes}
use Rattle.std.specs.declared.alloc.Global.{Global}
use Rattle.std.specs.Fmt.{decimal}
use Rattle.text_lines.specs.Texts.{line}
use Rattle.program_edge.specs.declared.input.InputFault.{InputFault}
use Rattle.program_edge.specs.declared.input.InputFault.TheVariants as input
use Rattle.program_edge.specs.Rows.{Row, row_of, input_row, memory_row}
use Rattle.program_edge.specs.Inputs.{Reading, IsUnread, ReadsWhole, Lacks, Offers}
use Rattle.slot_commands.specs.declared.tasks.ReplyAsked.{ReplyAsked}
use Rattle.slot_commands.specs.declared.tasks.SlotTask.{SlotTask}
use Rattle.slot_commands.specs.declared.tasks.SlotTask.TheVariants as task
use Rattle.slot_commands.specs.SlotTasks.{slots_asked}
use Rattle.slot_commands.specs.Stores.{ListsStore, ChecksStore, NoStoreIn, IsUnreadable}
use Rattle.slot_commands.specs.Replies.{RepliesFrom}

-- what goes in: the words after `slots`, and what was known of the file's source before and after
pub record SlotInputs : Type 0 where
  pub words : List (List ℕ)
  pub file : Reading

abbrev pub slots_usage : List ℕ
slots_usage = line (codes "usage: station slots list, check, reply, make, grow")

-- the line for the first value that isn't of its form
abbrev pub slot_value_text : ℕ → List ℕ
slot_value_text number = line (codes "value " ++ decimal number)

-- the words ask for this, and the file was read whole, with these bytes
abbrev pub AsksOver : SlotInputs → SlotTask → List ℕ → Type 0
AsksOver i asked x = (slots_asked i.words ≡ Some (Ok asked)) × ReadsWhole i.file x

-- the file was read whole, and this holds of its bytes
abbrev pub OverFile : SlotInputs → (List ℕ → Type 0) → Type 0
OverFile i Has = (x : List ℕ) × ReadsWhole i.file x × Has x

-- the words ask for this, and the file's source tells these bytes and doesn't fail
abbrev pub OffersOver : SlotInputs → SlotTask → List ℕ → Type 0
OffersOver i asked x = (slots_asked i.words ≡ Some (Ok asked)) × Offers i.file x

-- what a task over these bytes comes to
pub data DoesSlotTask (x : List ℕ) : SlotTask → Row → Type 0 where
  listed : (text : List ℕ) → ListsStore x text → DoesSlotTask x task.List (row_of 0 text)
  not_listed : (row : Row) → IsUnreadable x row → DoesSlotTask x task.List row
  found_nothing : (text : List ℕ) → ChecksStore None None x [] text → DoesSlotTask x task.Check (row_of 0 text)
  found : (findings : List (List (List ℕ))) (text : List ℕ) → findings ≢ [] → ChecksStore None None x findings text
      → DoesSlotTask x task.Check (row_of 1 text)
  not_checked : (row : Row) → NoStoreIn x row → DoesSlotTask x task.Check row
  replied : (asked : ReplyAsked) (row : Row) → RepliesFrom x asked row → DoesSlotTask x (task.Reply asked) row

-- the table: when each row comes, with its status and text
pub data ComesOfSlots (i : SlotInputs) : Row → Type 0 where
  no_form : slots_asked i.words ≡ None → IsUnread i.file → ComesOfSlots i (row_of 2 slots_usage)
  bad_value : (number : ℕ) → slots_asked i.words ≡ Some (Err number) → IsUnread i.file
      → ComesOfSlots i (row_of 3 (slot_value_text number))
  no_file : (asked : SlotTask) (fault : InputFault) → slots_asked i.words ≡ Some (Ok asked) → Lacks i.file fault
      → ComesOfSlots i (input_row fault)
  no_memory : (asked : SlotTask) → slots_asked i.words ≡ Some (Ok asked) → Lacks i.file input.Memory
      → ComesOfSlots i memory_row
  done : (asked : SlotTask) (x : List ℕ) (row : Row) → AsksOver i asked x → DoesSlotTask x asked row
      → ComesOfSlots i row

-- how the first phase ends: in a text and its status, or in a refusal; each is a row that comes
abbrev pub AnswersSlots : SlotInputs → Result (Vec ℕ Global × ℕ) Row → Type 0
AnswersSlots i (Ok (text, status)) = ComesOfSlots i (row_of status text.items)
AnswersSlots i (Err row) = ComesOfSlots i row
