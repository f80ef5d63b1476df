-- What the arguments after `ledger` ask for, if entries are to be taken over
use Rattle.std.specs.Prelude.{ℕ, ◌+◌, ◌==◌, ◌&&◌, Bool, if◌then◌else◌, List, length, true}
use Rattle.std.specs.Prelude.{Option, Some, None, Result, Ok, codes, bytes_eq}
use Rattle.std.specs.Option.{ok_or}
use Rattle.secoc_words.specs.KeyForms.{engine_uid_form}
use Rattle.text_lines.specs.Readings.{◌>>=◌, nth_word}
use Rattle.key_campaign.specs.Entries.{IsEntry}
use Rattle.ledger_backups.specs.EntryForms.{entry_slot_form, entry_counter_form}
use Rattle.adopt_commands.specs.declared.tasks.AdoptTask.{AdoptTask}
use Rattle.adopt_commands.specs.declared.tasks.AdoptTask.TheVariants as adopt
use Rattle.adopt_commands.specs.declared.tasks.EntryFile.TheVariants.{Backup, Ledger}

-- `UID SLOT COUNTER` after the ledger, which is value 1: the entry, which is confirmed, or the number of the first
-- value that isn't of its form
abbrev pub one_asked : List ℕ → List ℕ → List ℕ → Result AdoptTask ℕ
one_asked uid id counter = do
  unit ← ok_or (engine_uid_form uid) 2
  slot ← ok_or (entry_slot_form id) 3
  last ← ok_or (entry_counter_form counter) 4
  Ok (adopt.One (record { uid = unit; id = slot; counter = last; confirmed = true }))

-- after the command's name stands `--new`: if there is no ledger one is made
abbrev pub may_make : List (List ℕ) → Bool
may_make words = bytes_eq (nth_word words 2) (codes "--new")

-- the place of the ledger among the arguments, after that
abbrev pub ledger_place : List (List ℕ) → ℕ
ledger_place words = if may_make words then 3 else 2

-- so many arguments, of which this is the first
abbrev pub asks_of : List (List ℕ) → List ℕ → ℕ → Bool
asks_of words name count = length words == count && bytes_eq (nth_word words 1) name

-- the task of these arguments, of which the ledger has this place, or the number of the first wrong value; nothing if
-- they are malformed
unfoldable pub task_after : ℕ → List (List ℕ) → Option (Result AdoptTask ℕ)
task_after place words =
    if asks_of words (codes "import") (place + 1) then Some (Ok (adopt.All Backup)) else
    if asks_of words (codes "merge") (place + 1) then Some (Ok (adopt.All Ledger)) else
    if asks_of words (codes "adopt") (place + 3)
    then Some (one_asked (nth_word words (place + 1)) (nth_word words (place + 2)) (nth_word words (place + 3)))
    else None

abbrev pub adoption_asked : List (List ℕ) → Option (Result AdoptTask ℕ)
adoption_asked words = task_after (ledger_place words) words

-- the one entry is one that a ledger may have
abbrev pub IsOneEntry : AdoptTask → Type 0
IsOneEntry (adopt.One entry) = IsEntry entry
IsOneEntry (adopt.All kind) = Unit {0}
