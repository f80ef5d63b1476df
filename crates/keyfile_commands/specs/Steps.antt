-- What the phases of a key command with keys from files say to one another
use Rattle.std.specs.Prelude.{◌≡◌, ◌≢◌, ℕ, ◌≤◌, List, [], drop, length, map, string_bytes, String, Vec, Result, Ok, Err}
use Rattle.std.specs.declared.alloc.Global.{Global}
use Rattle.program_edge.specs.declared.input.InputFault.{InputFault}
use Rattle.program_edge.specs.Rows.{Row, row_of, input_row, memory_row}
use Rattle.program_edge.specs.Inputs.{Reading, Lacks}
use Rattle.key_commands.specs.declared.subcommands.Subcommand.{Subcommand}
use Rattle.key_commands.specs.declared.subcommands.Subcommand.TheVariants as subcommand
use Rattle.key_commands.specs.declared.tasks.Task.TheVariants as task
use Rattle.key_commands.specs.declared.tasks.WordTask.TheVariants as word_task
use Rattle.key_commands.specs.Keys.{IsPlainCall}
use Rattle.key_commands.specs.Tasks.{task_of}
use Rattle.keyfile_commands.specs.declared.run.KeyTask.{KeyTask}
use Rattle.keyfile_commands.specs.declared.run.KeyTask.TheVariants.{Words, Image}
use Rattle.keyfile_commands.specs.Rows.{KeyFileInputs, AsksKeys, ComesOfKeyFiles, GivesKey, HasNoKey, no_key_text}
use Rattle.keyfile_commands.specs.Rows.{GivesBootImage, ReadsImageFile, LacksImageFile, image_limit, no_image_text}

-- why a file gives no key
pub data LacksKey (file : Reading) : Row → Type 0 where
  no_key_read : (fault : InputFault) → Lacks file fault → LacksKey file (input_row fault)
  no_key_in : HasNoKey file → LacksKey file (row_of 4 no_key_text)

-- why a file gives no image
pub data LacksBootImage (file : Reading) : Row → Type 0 where
  no_image_read : (fault : InputFault) → LacksImageFile file fault → LacksBootImage file (input_row fault)
  no_image_in : ReadsImageFile file [] → LacksBootImage file (row_of 3 no_image_text)

-- a key, or why there is none
abbrev pub TakesKey : Reading → Result (List ℕ) Row → Type 0
TakesKey file (Ok key) = GivesKey file key
TakesKey file (Err row) = LacksKey file row

-- an image, or why there is none
abbrev pub TakesBootImage : Reading → Result (Vec ℕ Global) Row → Type 0
TakesBootImage file (Ok image) = GivesBootImage file image.items
TakesBootImage file (Err row) = LacksBootImage file row

-- these are the arguments of keytool, after its name, of a subcommand with these values
abbrev pub IsKeytoolCall : Subcommand → List (List ℕ) → List (List ℕ) → Type 0
IsKeytoolCall s values words = IsPlainCall (drop 1 words) s values

-- a task that asks for what the arguments and files ask for
abbrev pub TaskAsks : KeyFileInputs → KeyTask → Type 0
TaskAsks i (Words words) = (s : Subcommand) × (values : List (List ℕ)) × (s ≢ subcommand.Load)
    × IsKeytoolCall s values (map string_bytes words.items) × AsksKeys i (task_of s values)
TaskAsks i (Image key image) =
    (length image.items ≤ image_limit) × AsksKeys i (Ok (task.Words (word_task.Bootmac key image.items)))

-- the task over these arguments, or that there was no memory for them
abbrev pub IsTaskOver : {E : Type 0} → Result (Vec (String Global) Global) E → Result KeyTask Row → Type 0
IsTaskOver (Ok words) result = result ≡ Ok (Words words)
IsTaskOver (Err error) result = result ≡ Err memory_row

-- how the first phase ends: in a task, or in a row that comes
abbrev pub PreparesKeys : KeyFileInputs → Result KeyTask Row → Type 0
PreparesKeys i (Ok made) = TaskAsks i made
PreparesKeys i (Err row) = ComesOfKeyFiles i row
