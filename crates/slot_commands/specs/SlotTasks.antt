-- What the words after `slots` ask for
use Rattle.std.specs.Prelude.{ℕ, if◌then◌else◌, List, [], ◌∷◌, Option, Some, None, Result, Ok, codes, bytes_eq}
use Rattle.std.specs.Option.{ok_or}
use Rattle.secoc_words.specs.KeyForms.{engine_uid_form, slot_form}
use Rattle.text_lines.specs.Readings.{◌>>=◌, nth_word}
use Rattle.slot_commands.specs.declared.tasks.SlotTask.{SlotTask}
use Rattle.slot_commands.specs.declared.tasks.SlotTask.TheVariants as task

-- `UID ID AUTH`; or the number of the first that isn't of its form, counted from FILE, which is 1
abbrev pub reply_asked : List ℕ → List ℕ → List ℕ → Result SlotTask ℕ
reply_asked uid id auth = do
  unit ← ok_or (engine_uid_form uid) 2
  slot ← ok_or (slot_form id) 3
  authority ← ok_or (slot_form auth) 4
  Ok (task.Reply (record { uid = unit; id = slot; auth = authority }))

-- the task of this name that has no further values
abbrev pub task_named : List ℕ → Option (Result SlotTask ℕ)
task_named name =
    if bytes_eq name (codes "list") then Some (Ok task.List) else
    if bytes_eq name (codes "check") then Some (Ok task.Check) else None

-- the task of this name that has three further values
abbrev pub reply_named : List ℕ → List ℕ → List ℕ → List ℕ → Option (Result SlotTask ℕ)
reply_named name uid id auth = if bytes_eq name (codes "reply") then Some (reply_asked uid id auth) else None

-- the task of these words, or the number of the first wrong value; nothing if they are malformed
abbrev pub slots_asked : List (List ℕ) → Option (Result SlotTask ℕ)
slots_asked (name ∷ file ∷ []) = task_named name
slots_asked (name ∷ file ∷ uid ∷ id ∷ auth ∷ []) = reply_named name uid id auth
slots_asked words = None

-- the file of what is asked: the second word; none if nothing is asked
abbrev pub task_file : Option (Result SlotTask ℕ) → List (List ℕ) → Option (List ℕ)
task_file (Some (Ok asked)) words = Some (nth_word words 2)
task_file other words = None

-- the file of the task that these words ask for, if they ask for one
abbrev pub file_asked : List (List ℕ) → Option (List ℕ)
file_asked words = task_file (slots_asked words) words
