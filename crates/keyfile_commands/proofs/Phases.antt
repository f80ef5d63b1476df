-- The phases of a run, put together
use Rattle.std.proofs.Common.{◌≡◌, ◌≢◌, ◌∙◌, ℕ, List, Some, None, Result, Ok, Err, map, sym, subst, inl, inr}
use Rattle.std.specs.Prelude.{string_bytes, String, Vec, IfOk}
use Rattle.std.specs.declared.alloc.Global.{Global}
use Rattle.program_edge.specs.Rows.{Row}
use Rattle.program_edge.specs.Inputs.{IsUnread}
use Rattle.key_commands.specs.declared.tasks.Task.{Task}
use Rattle.key_commands.specs.declared.tasks.Task.TheVariants as task
use Rattle.key_commands.specs.declared.tasks.WordTask.TheVariants as word_task
use Rattle.key_commands.specs.declared.tasks.BadValue.{BadValue}
use Rattle.key_commands.specs.declared.subcommands.Subcommand.{Subcommand}
use Rattle.key_commands.specs.declared.subcommands.Subcommand.TheVariants as subcommand
use Rattle.key_commands.specs.Tasks.{task_of}
use Rattle.key_commands.specs.Rows.{AskedComes, asked_wrongly, no_text, task_denied, task_done}
use Rattle.keyfile_commands.specs.declared.calls.KeyCall.{KeyCall}
use Rattle.keyfile_commands.specs.declared.calls.KeyCall.TheVariants.{Make, Bootmac}
use Rattle.keyfile_commands.specs.declared.run.KeyTask.{KeyTask}
use Rattle.keyfile_commands.specs.declared.run.KeyTask.TheVariants.{Image}
use Rattle.keyfile_commands.specs.Calls.{call_of}
use Rattle.keyfile_commands.specs.Rows.{KeyFileInputs, AsksKeys, HasFirst, ComesOfKeyFiles, no_file, no_key, no_image, wrong_value, no_memory, denied, done}
use Rattle.keyfile_commands.specs.Steps.{IsKeytoolCall, TaskAsks, IsTaskOver, PreparesKeys, LacksKey, no_key_read, no_key_in, LacksBootImage, no_image_read, no_image_in}

-- the arguments are a call
pub is_some : (words : List (List ℕ)) (call : KeyCall) → call_of words ≡ Some call → call_of words ≢ None
is_some words call is none = let both : Some call ≡ None = sym is ∙ none in cc both

pub of_first : (i : KeyFileInputs) (call : KeyCall) (row : Row) → call_of i.words ≡ Some call → LacksKey i.first row → IsUnread i.second
    → ComesOfKeyFiles i row
of_first i call row is (no_key_read fault lacks) unread = no_file fault (inl (is_some i.words call is, lacks, unread))
of_first i call row is (no_key_in none) unread = no_key (inl (is_some i.words call is, none, unread))

pub of_second : (i : KeyFileInputs) (row : Row) → HasFirst i Make → LacksKey i.second row → ComesOfKeyFiles i row
of_second i row has (no_key_read fault lacks) = no_file fault (inr (inl (has, lacks)))
of_second i row has (no_key_in none) = no_key (inr (has, none))

pub of_image : (i : KeyFileInputs) (row : Row) → HasFirst i Bootmac → LacksBootImage i.second row → ComesOfKeyFiles i row
of_image i row has (no_image_read fault lacks) = no_file fault (inr (inr (has, lacks)))
of_image i row has (no_image_in none) = no_image has none

pub of_asked : (i : KeyFileInputs) (asked : Result Task BadValue) → AsksKeys i asked → (row : Row) → AskedComes asked row → ComesOfKeyFiles i row
of_asked i asked asks row (asked_wrongly bad is) = wrong_value bad (rw is at asks)
of_asked i asked asks row no_text = no_memory asked asks
of_asked i asked asks row (task_denied task text is denies) = denied task text (rw is at asks) denies
of_asked i asked asks row (task_done task text is prints) = done task text (rw is at asks) prints

-- the arguments of keytool that were made, or no memory for them
pub task_made : {E : Type 0} (i : KeyFileInputs) (s : Subcommand) (values : List (List ℕ)) (made : Result (Vec (String Global) Global) E)
    (result : Result KeyTask Row) → s ≢ subcommand.Load → AsksKeys i (task_of s values)
    → IfOk made (λ m. IsKeytoolCall s values (map string_bytes m.items)) → IsTaskOver made result → PreparesKeys i result
task_made i s values (Ok words) result other asks is over = subst (PreparesKeys i) (sym over) (s, values, other, is, asks)
task_made i s values (Err error) result other asks is over = subst (PreparesKeys i) (sym over) (no_memory (task_of s values) asks)

-- the boot MAC of an image that was read
pub of_image_task : (i : KeyFileInputs) (key bytes : List ℕ) (image : Vec ℕ Global) → bytes ≡ image.items → TaskAsks i (Image key image)
    → (row : Row) → AskedComes (Ok (task.Words (word_task.Bootmac key bytes))) row → ComesOfKeyFiles i row
of_image_task i key bytes image is (short, asks) =
    of_asked i (Ok (task.Words (word_task.Bootmac key bytes))) (subst (λ (m : List ℕ). AsksKeys i (Ok (task.Words (word_task.Bootmac key m)))) (sym is) asks)
