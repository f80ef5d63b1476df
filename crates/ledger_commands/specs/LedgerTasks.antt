-- What the arguments after `ledger` ask for
use Rattle.std.specs.Prelude.{ℕ, ◌==◌, ◌&&◌, nat_le, Bool, if◌then◌else◌, List, length, take, drop}
use Rattle.std.specs.Prelude.{Option, Some, None, Result, Ok, codes, bytes_eq}
use Rattle.std.specs.Option.{ok_or}
use Rattle.secoc_words.specs.KeyForms.{engine_uid_form, slot_form}
use Rattle.text_lines.specs.Readings.{◌>>=◌, nth_word}
use Rattle.ledger_commands.specs.declared.tasks.ReadTask.{ReadTask}
use Rattle.ledger_commands.specs.declared.tasks.ReadTask.TheVariants as read

-- `UID SLOT` after the ledger, which is value 1; the number of the first value that isn't of its form
abbrev pub show_asked : List ℕ → List ℕ → Result ReadTask ℕ
show_asked uid id = do
  unit ← ok_or (engine_uid_form uid) 2
  slot ← ok_or (slot_form id) 3
  Ok (read.Show unit slot)

-- so many arguments, of which this is the first
abbrev pub asks : List (List ℕ) → List ℕ → ℕ → Bool
asks words name count = length words == count && bytes_eq (nth_word words 1) name

-- at least two
abbrev pub asks_some : List (List ℕ) → List ℕ → Bool
asks_some words name = nat_le 2 (length words) && bytes_eq (nth_word words 1) name

-- the task of these arguments, or the number of the first wrong value; nothing if they are malformed. `list` and `open`
-- take any number of ledgers, at least one
unfoldable pub ledger_asked : List (List ℕ) → Option (Result ReadTask ℕ)
ledger_asked words =
    if asks_some words (codes "list") then Some (Ok read.List) else
    if asks_some words (codes "open") then Some (Ok read.Open) else
    if asks words (codes "export") 2 then Some (Ok read.Export) else
    if asks words (codes "show") 4 then Some (show_asked (nth_word words 3) (nth_word words 4)) else None

-- the arguments that name the ledgers of a task that only reads: all after the first for `list` and `open`, and else
-- the second
abbrev pub ledgers_named : ReadTask → List (List ℕ) → List (List ℕ)
ledgers_named read.List words = drop 1 words
ledgers_named read.Open words = drop 1 words
ledgers_named read.Export words = take 1 (drop 1 words)
ledgers_named (read.Show uid id) words = take 1 (drop 1 words)
