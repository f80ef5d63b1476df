-- A task that is denied isn't done
use Rattle.std.proofs.Common.{arith, ◌≡◌, ◌⊎◌, ℕ, List, Ok, Err, inl, inr}
use Rattle.memory_update.proofs.CallerLemmas.{HasSlots-Carries}
use Rattle.program_edge.specs.Rows.{Row}
use Rattle.key_commands.specs.declared.tasks.Task.{Task}
use Rattle.key_commands.specs.declared.tasks.Task.TheVariants.{Words}
use Rattle.key_commands.specs.declared.tasks.WordTask.TheVariants.{Read, Confirm}
use Rattle.key_commands.specs.declared.tasks.BadValue.{BadValue}
use Rattle.key_commands.specs.Texts.{Denies, PrintsDone}
use Rattle.key_commands.specs.Rows.{AsksFor, IsRefused, ComesOfWords}
use Rattle.key_commands.proofs.Named.{asks_one, asks_taken}

not_both : (task : Task) (first second : List ℕ) → PrintsDone task first → Denies task second → ⊥
not_both (Words (Read request authkey)) first second prints denies =
    elim denies [
      | inl no_slots ↦ no_slots.0 (HasSlots-Carries request authkey prints.0 prints.1)
      | inr wrong ↦ wrong.1 prints.1.padded.m3_is
    ]
not_both (Words (Confirm reply update)) first second prints denies = denies.0 prints.0
not_both task first second prints denies = denies

-- this status or 7, out of memory
abbrev pub IsOr7 : ℕ → ℕ → Type 0
IsOr7 n status = (status ≡ n) ⊎ (status ≡ 7)

pub denied_row : (words : List (List ℕ)) (task : Task) (text : List ℕ) → AsksFor words (Ok task) → Denies task text
    → (row : Row) → ComesOfWords words row → IsOr7 1 row.status
denied_row words task text asks denies row comes = grind (arith, asks_taken, asks_one, not_both)

pub wrong_row : (words : List (List ℕ)) (bad : BadValue) → AsksFor words (Err bad) → (row : Row) → ComesOfWords words row → IsOr7 3 row.status
wrong_row words bad asks row comes = grind (arith, asks_taken, asks_one)

pub refused_row : (words : List (List ℕ)) → IsRefused words → (row : Row) → ComesOfWords words row → IsOr7 2 row.status
refused_row words refused row comes = grind (arith, asks_taken)
