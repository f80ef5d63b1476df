-- The two phases of a run
use Rattle.std.proofs.Common.{◌≡◌, ◌⊎◌, ◌∙◌, ℕ, List, [], ◌≢◌, Ok, Err, ap, sym, refl, subst, inl, inr}
use Rattle.clap.specs.Words.{Row as FoundRow}
use Rattle.program_edge.specs.Rows.{Row, row_of, memory_row}
use Rattle.key_commands.specs.declared.subcommands.Subcommand.{Subcommand}
use Rattle.key_commands.specs.declared.tasks.Task.{Task}
use Rattle.key_commands.specs.declared.tasks.BadValue.{BadValue}
use Rattle.key_commands.specs.Subcommands.{NamesSubcommand, values_of}
use Rattle.key_commands.specs.Parsing.{found, refusals, values_in}
use Rattle.key_commands.specs.Tasks.{task_of}
use Rattle.std.specs.Prelude.{Result}
use Rattle.key_commands.specs.Texts.{key_usage, value_text, Denies}
use Rattle.key_commands.specs.Rows.{AsksFor, AskedComes, ComesOfWords, asked_wrongly, denied, done, no_memory, no_text, refused_words, task_denied, task_done, wrong_value}

-- what clap found asks for the first wrong value, which is named, unless there is no memory
pub refuses_value : (s : Subcommand) (words : List (List ℕ)) (rows : List FoundRow) (bad : BadValue) (row : Row) → NamesSubcommand words s
    → refusals s words ≡ [] → rows ≡ found s words → Err bad ≡ task_of s (values_in (values_of s) rows)
    → (row ≡ row_of 3 (value_text bad.number)) ⊎ (row ≡ memory_row) → ComesOfWords words row
refuses_value s words rows bad row names taken rows_are is tells = elim tells [
  | inl named ↦ subst (ComesOfWords words) (sym named) (wrong_value bad asks)
  | inr memory ↦ subst (ComesOfWords words) (sym memory) (no_memory (s, names))
]
  where
    asks : AsksFor words (Err bad)
    asks = (s, names, taken, ap (λ (r : List FoundRow). task_of s (values_in (values_of s) r)) (sym rows_are) ∙ sym is)

-- a row of the task that the arguments ask for
pub asked_row : (words : List (List ℕ)) (task : Task) → AsksFor words (Ok task) → (row : Row) → AskedComes (Ok task) row → ComesOfWords words row
asked_row words task asks row (asked_wrongly bad is) = cc is
asked_row words task asks row no_text = no_memory (asks.0, asks.1)
asked_row words task asks row (task_denied other text is denies) = denied other text (subst (AsksFor words) is asks) denies
asked_row words task asks row (task_done other text is prints) = done other text (subst (AsksFor words) is asks) prints

-- words that clap doesn't take
pub clap_refuses : (s : Subcommand) (words : List (List ℕ)) (row : Row) → NamesSubcommand words s
    → (row ≡ memory_row) ⊎ ((refusals s words ≢ []) × (row ≡ row_of 2 key_usage)) → ComesOfWords words row
clap_refuses s words row names (inl memory) = subst (ComesOfWords words) (sym memory) (no_memory (s, names))
clap_refuses s words row names (inr (wrong, usage)) = subst (ComesOfWords words) (sym usage) (refused_words (inr (s, names, wrong)))

-- out of memory for a text, and messages that are refused
pub asked_memory : (asked : Result Task BadValue) (row : Row) → row ≡ memory_row → AskedComes asked row
asked_memory asked row is = subst (AskedComes asked) (sym is) no_text

pub asked_denied : (task : Task) (text : List ℕ) (row : Row) → row ≡ row_of 1 text → Denies task text → AskedComes (Ok task) row
asked_denied task text row is denies = subst (AskedComes (Ok task)) (sym is) (task_denied task text refl denies)
