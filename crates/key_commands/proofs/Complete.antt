-- Of plain values the run ends in a row of what they ask for
use Rattle.std.proofs.Common.{◌≡◌, ◌⊎◌, ℕ, List, Ok, ap, sym, refl, subst, inl, inr}
use Rattle.program_edge.specs.Rows.{Row}
use Rattle.key_commands.specs.declared.subcommands.Subcommand.{Subcommand}
use Rattle.key_commands.specs.declared.tasks.Task.{Task}
use Rattle.key_commands.specs.Subcommands.{name_of}
use Rattle.key_commands.specs.Tasks.{task_of}
use Rattle.key_commands.specs.Rows.{AsksFor, AskedComes, ComesOfWords, asked_wrongly, denied, done, no_memory, no_text, refused_words, task_denied, task_done, wrong_value}
use Rattle.key_commands.specs.Keys.{IsPlainCall}
use Rattle.key_commands.proofs.Named.{asks_one, asks_taken}
use Rattle.key_commands.proofs.Plain.{plain_values}

-- clap takes plain values, and they ask for what they are
pub plain_asks : (words : List (List ℕ)) (s : Subcommand) (values : List (List ℕ)) → IsPlainCall words s values → AsksFor words (task_of s values)
plain_asks words s values (words_are, size, plain) =
    let taken = plain_values s (name_of s) values size plain in
    subst (λ (w : List (List ℕ)). AsksFor w (task_of s values)) (sym words_are) (s, refl, taken.0, ap (task_of s) taken.1)

-- a row that comes is one of what the arguments ask for
pub plain_row : (words : List (List ℕ)) (s : Subcommand) (values : List (List ℕ)) → IsPlainCall words s values
    → (row : Row) → ComesOfWords words row → AskedComes (task_of s values) row
plain_row words s values call row (refused_words refused) = absurd (asks_taken words _ (plain_asks words s values call) refused)
plain_row words s values call row (wrong_value bad asks) = asked_wrongly bad (asks_one words _ _ (plain_asks words s values call) asks)
plain_row words s values call row (no_memory names) = no_text
plain_row words s values call row (denied task text asks denies) = task_denied task text (asks_one words _ _ (plain_asks words s values call) asks) denies
plain_row words s values call row (done task text asks prints) = task_done task text (asks_one words _ _ (plain_asks words s values call) asks) prints

-- the rows of a task are 0, 1 and 7
pub task_row : (task : Task) (row : Row) → AskedComes (Ok task) row → (row.status ≡ 0) ⊎ (row.status ≡ 1) ⊎ (row.status ≡ 7)
task_row task row (asked_wrongly bad is) = cc is
task_row task row no_text = inr (inr refl)
task_row task row (task_denied same text is denies) = inr (inl refl)
task_row task row (task_done same text is prints) = inl refl
