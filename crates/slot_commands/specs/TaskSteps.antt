-- Why words ask for no task
use Rattle.std.specs.Prelude.{◌≡◌, ◌⊎◌, ℕ, Option, Some, None, Result, Ok, Err}
use Rattle.program_edge.specs.Rows.{Row, row_of}
use Rattle.slot_commands.specs.declared.tasks.SlotTask.{SlotTask}
use Rattle.slot_commands.specs.SlotRows.{slots_usage, slot_value_text}

-- the answer is the task that is asked for. Or the words are malformed, or a value isn't of its form: the row that says
-- which
abbrev pub AnswersAsked : Option (Result SlotTask ℕ) → Result SlotTask Row → Type 0
AnswersAsked asked (Ok task) = asked ≡ Some (Ok task)
AnswersAsked asked (Err row) =
    ((asked ≡ None) × (row ≡ row_of 2 slots_usage))
    ⊎ ((number : ℕ) × (asked ≡ Some (Err number)) × (row ≡ row_of 3 (slot_value_text number)))
