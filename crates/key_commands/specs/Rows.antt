-- The table of answers of the key command: its rows, and when each comes
use Rattle.std.specs.Prelude.{◌≡◌, ◌≢◌, ◌⊎◌, ℕ, List, [], Result, Ok, Err}
use Rattle.cut_disk.specs.State.{DiskState}
use Rattle.program_edge.specs.Rows.{Row, row_of, memory_row}
use Rattle.program_edge.specs.Inputs.{Reading}
use Rattle.program_edge.specs.Endings.{Ending, EndsInRow}
use Rattle.key_commands.specs.Loads.{LoadInputs, ComesInLoad, EndsInLines, EndsLoad}
use Rattle.key_commands.specs.declared.subcommands.Subcommand.{Subcommand}
use Rattle.key_commands.specs.declared.tasks.Task.{Task}
use Rattle.key_commands.specs.declared.tasks.Task.TheVariants.{Load}
use Rattle.key_commands.specs.declared.tasks.BadValue.{BadValue}
use Rattle.key_commands.specs.Subcommands.{NamesSubcommand}
use Rattle.key_commands.specs.Parsing.{refusals, given}
use Rattle.key_commands.specs.Tasks.{task_of}
use Rattle.key_commands.specs.Texts.{key_usage, value_text, PrintsDone, Denies}

-- what a call was handed, before and after
pub record Handed (A : Type 0) : Type 0 where
  pub before : A
  pub after : A

abbrev pub IsAsBefore : {A : Type 0} → Handed A → Type 0
IsAsBefore handed = handed.after ≡ handed.before

-- what goes into a key command: the arguments after the program's name, the source of requests, and the disks; and what
-- was known of the source and of each disk, before and after
pub record KeyInputs (S D : Type 0) : Type 0 where
  pub words : List (List ℕ)
  pub request : Handed S
  pub disks : Handed (List D)
  pub reading : Reading
  pub known : Handed (List DiskState)

-- the arguments begin with no subcommand
abbrev pub NamesNone : List (List ℕ) → Type 0
NamesNone words = (s : Subcommand) → ¬ NamesSubcommand words s

-- they begin with a subcommand
abbrev pub NamesSome : List (List ℕ) → Type 0
NamesSome words = (s : Subcommand) × NamesSubcommand words s

-- the arguments are malformed: they name no subcommand, or clap refuses them
abbrev pub IsRefused : List (List ℕ) → Type 0
IsRefused words = NamesNone words ⊎ ((s : Subcommand) × NamesSubcommand words s × (refusals s words ≢ []))

-- clap takes the arguments, and the values that it finds ask a subcommand for this
abbrev pub AsksFor : List (List ℕ) → Result Task BadValue → Type 0
AsksFor words asked =
    (s : Subcommand) × NamesSubcommand words s × (refusals s words ≡ []) × (task_of s (given s words) ≡ asked)

-- the arguments ask for a load into the engine with this identifier
abbrev pub AsksLoad : List (List ℕ) → List ℕ → Type 0
AsksLoad words uid = AsksFor words (Ok (Load uid))

-- they ask for none: they ask for another task, or for nothing
abbrev pub AsksNoLoad : List (List ℕ) → Type 0
AsksNoLoad words = (uid : List ℕ) → ¬ AsksLoad words uid

-- the task is another than a load
abbrev pub IsNoLoad : Task → Type 0
IsNoLoad (Load uid) = ⊥
IsNoLoad _ = Unit {0}

-- what goes into a load of this engine
abbrev pub load_inputs : {S D : Type 0} → KeyInputs S D → List ℕ → LoadInputs
load_inputs i uid = record { uid = uid; request = i.reading; before = i.known.before; after = i.known.after }

-- the arguments ask for a load, and this holds of what goes into it
abbrev pub OverLoad : {S D : Type 0} → KeyInputs S D → (LoadInputs → Type 0) → Type 0
OverLoad i P = (uid : List ℕ) × AsksLoad i.words uid × P (load_inputs i uid)

-- the rows for which neither the source of requests nor a disk is used, with their statuses and texts, by the arguments
pub data ComesOfWords (words : List (List ℕ)) : Row → Type 0 where
  refused_words : IsRefused words → ComesOfWords words (row_of 2 key_usage)
  wrong_value : (bad : BadValue) → AsksFor words (Err bad) → ComesOfWords words (row_of 3 (value_text bad.number))
  no_memory : NamesSome words → ComesOfWords words memory_row
  denied : (task : Task) (text : List ℕ) → AsksFor words (Ok task) → Denies task text
      → ComesOfWords words (row_of 1 text)
  done : (task : Task) (text : List ℕ) → AsksFor words (Ok task) → PrintsDone task text
      → ComesOfWords words (row_of 0 text)

-- the table: when each row comes
pub data KeyComes {S D : Type 0} (i : KeyInputs S D) : Row → Type 0 where
  without_disks : (row : Row) → ComesOfWords i.words row → IsAsBefore i.request → IsAsBefore i.disks → KeyComes i row
  not_loaded : (row : Row) → OverLoad i (λ l. ComesInLoad l row) → KeyComes i row

-- the rows that are left if it is known what the values ask a subcommand for
pub data AskedComes (asked : Result Task BadValue) : Row → Type 0 where
  asked_wrongly : (bad : BadValue) → asked ≡ Err bad → AskedComes asked (row_of 3 (value_text bad.number))
  no_text : AskedComes asked memory_row
  task_denied : (task : Task) (text : List ℕ) → asked ≡ Ok task → Denies task text → AskedComes asked (row_of 1 text)
  task_done : (task : Task) (text : List ℕ) → asked ≡ Ok task → PrintsDone task text → AskedComes asked (row_of 0 text)

-- how a key command ends: in a row of the table, which is printed; or requests are loaded, and answered in lines
abbrev pub EndsKey : {S D : Type 0} → KeyInputs S D → Ending → Type 0
EndsKey i e = EndsInRow (KeyComes i) e ⊎ OverLoad i (λ l. EndsInLines l e)

-- how it ends if it is known what the values ask for: in a row of this, or as a load does
abbrev pub EndsAsked : {S D : Type 0} → KeyInputs S D → Result Task BadValue → Ending → Type 0
EndsAsked i asked e =
    EndsInRow (AskedComes asked) e ⊎ ((uid : List ℕ) × (asked ≡ Ok (Load uid)) × EndsLoad (load_inputs i uid) e)
