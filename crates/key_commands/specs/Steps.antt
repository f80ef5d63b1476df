-- What the phases of a key command say to one another
use Rattle.std.specs.Prelude.{List, ℕ, Result, Ok, Err, String, string_bytes}
use Rattle.std.specs.declared.alloc.Global.{Global}
use Rattle.program_edge.specs.Rows.{Row}
use Rattle.key_commands.specs.declared.tasks.Task.{Task}
use Rattle.key_commands.specs.Texts.{PrintsDone}
use Rattle.key_commands.specs.Rows.{AsksFor, ComesOfWords, AskedComes}

-- how the first phase ends: in the task that the arguments ask for, or in a row that comes
abbrev pub PreparesTask : List (List ℕ) → Result Task Row → Type 0
PreparesTask words (Ok task) = AsksFor words (Ok task)
PreparesTask words (Err row) = ComesOfWords words row

-- what a task comes to: the text that is printed if it is done, or another row of it
abbrev pub Does : Task → Result (String Global) Row → Type 0
Does task (Ok text) = PrintsDone task (string_bytes text)
Does task (Err row) = AskedComes (Ok task) row
