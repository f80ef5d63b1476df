-- What `slots list`, `slots check` and `slots reply` promise
use Rattle.std.specs.Prelude.{◌≡◌, ◌≢◌, ◌⊎◌, ℕ, List, [], Some, None, Ok, Err, codes}
use Rattle.program_edge.specs.Inputs.{IsUnread, SourceFailed, CountsFault, GivesTooMuch, CountsTooMuch}
use Rattle.program_edge.specs.Rows.{Row}
use Rattle.program_edge.specs.Endings.{Ending, EndsInRow, EndsIn, MayEndIn, PrintsWhole, PrintsFront}
use Rattle.program_edge.specs.Endings.{SinkFailed, CountsWriteFault}
use Rattle.slot_commands.specs.declared.tasks.ReplyAsked.{ReplyAsked}
use Rattle.slot_commands.specs.declared.tasks.SlotTask.{SlotTask}
use Rattle.slot_commands.specs.declared.tasks.SlotTask.TheVariants as task
use Rattle.slot_commands.specs.SlotTasks.{slots_asked}
use Rattle.slot_commands.specs.Stores.{ListsStore, ChecksStore, NoStoreIn, IsUnreadable}
use Rattle.slot_commands.specs.Replies.{RepliesFrom}
use Rattle.slot_commands.specs.SlotRows.{SlotInputs, slots_usage, slot_value_text, AsksOver}
use Rattle.slot_commands.specs.SlotRows.{OverFile, OffersOver, DoesSlotTask}
use Rattle.slot_commands.specs.SlotRows.{ComesOfSlots}

-- what is promised of these inputs that ends so, in the order of the table of answers
pub record ReadsUnitStore (i : SlotInputs) (e : Ending) : Type 0 where
  -- The program prints a row of the table and ends with its status, or at 6 a prefix of one.
  pub ends : EndsInRow (ComesOfSlots i) e
  -- 0 of `list`: the file was read whole, and exactly the list of its store was printed.
  pub listed : slots_asked i.words ≡ Some (Ok task.List) → e.status ≡ 0
      → OverFile i (λ x. (text : List ℕ) × ListsStore x text × PrintsWhole e text)
  -- `check`: 0 exactly if nothing is wrong with a cell, and 1 exactly if something is; then each is printed.
  pub checked : slots_asked i.words ≡ Some (Ok task.Check) → e.status ≡ 0
      → OverFile i (λ x. (text : List ℕ) × ChecksStore None None x [] text × PrintsWhole e text)
  pub found : slots_asked i.words ≡ Some (Ok task.Check) → e.status ≡ 1
      → OverFile i (λ x. (findings : List (List (List ℕ))) × (text : List ℕ) × (findings ≢ [])
      × ChecksStore None None x findings text × PrintsWhole e text)
  pub found_only : (x text : List ℕ) (findings : List (List (List ℕ))) → OffersOver i task.Check x
      → ChecksStore None None x findings text → findings ≢ [] → MayEndIn 1 e
  -- `reply`: 0 with the line that the load printed. 1: the pair or the empty slot refuses it.
  pub replied : (asked : ReplyAsked) → slots_asked i.words ≡ Some (Ok (task.Reply asked))
      → (e.status ≡ 0) ⊎ (e.status ≡ 1)
      → OverFile i (λ x. (row : Row) × RepliesFrom x asked row × (row.status ≡ e.status) × PrintsWhole e row.text)
  -- 2: exactly if the words are malformed; nothing was read.
  pub usage : e.status ≡ 2 → (slots_asked i.words ≡ None) × IsUnread i.file × PrintsWhole e slots_usage
  pub usage_only : slots_asked i.words ≡ None → EndsIn 2 e
  -- 3: exactly if a value isn't of its form, with the number of the first; nothing was read.
  pub value : e.status ≡ 3 → (number : ℕ) × (slots_asked i.words ≡ Some (Err number)) × IsUnread i.file
      × PrintsWhole e (slot_value_text number)
  pub value_only : (number : ℕ) → slots_asked i.words ≡ Some (Err number) → EndsIn 3 e
  -- 5: exactly if the source's count of faults rose.
  pub read_fault : e.status ≡ 5 → SourceFailed i.file × PrintsWhole e (codes "read fault\n")
  pub read_fault_only : CountsFault i.file → EndsIn 5 e
  -- 6: exactly if the sink's count of faults rose; a prefix was written of a row that comes.
  pub write_fault : e.status ≡ 6 → SinkFailed e × PrintsFront (ComesOfSlots i) e
  pub write_fault_only : CountsWriteFault e → e.status ≡ 6
  -- 7: nothing was written.
  pub no_memory : e.status ≡ 7 → PrintsWhole e []
  -- 8: exactly if one byte more than an input may have came from the source.
  pub too_long : e.status ≡ 8 → GivesTooMuch i.file × PrintsWhole e (codes "input too long\n")
  pub too_long_only : CountsTooMuch i.file → EndsIn 8 e
  -- 9: exactly if the bytes give no store that the task can read; the first cause is printed.
  pub no_store : e.status ≡ 9 → (asked : SlotTask) × (x : List ℕ) × (row : Row) × AsksOver i asked x
      × DoesSlotTask x asked row × (row.status ≡ 9) × PrintsWhole e row.text
  pub no_store_only : (x : List ℕ) (row : Row) → OffersOver i task.List x → IsUnreadable x row → MayEndIn 9 e
  pub no_check_only : (x : List ℕ) (row : Row) → OffersOver i task.Check x → NoStoreIn x row → MayEndIn 9 e
  -- What is valid is done, if no port failed and there was memory.
  pub complete : (x : List ℕ) (asked : SlotTask) (row : Row) → OffersOver i asked x → DoesSlotTask x asked row
      → ¬ SinkFailed e → (e.status ≡ row.status) ⊎ (e.status ≡ 7)
