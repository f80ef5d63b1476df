-- The arguments name one subcommand at most, and ask it for one thing
use Rattle.std.proofs.Common.{◌≡◌, ◌∙◌, ℕ, List, [], ◌∷◌, ap, sym, refl, get_or, inl, inr}
use Rattle.std.specs.Prelude.{◌==◌, if◌then◌else◌, Result}
use Rattle.key_commands.specs.declared.subcommands.Subcommand.{Subcommand}
use Rattle.key_commands.specs.declared.subcommands.Subcommand.TheVariants.{Make, Read, Confirm, Bootmac, Load}
use Rattle.key_commands.specs.declared.tasks.Task.{Task}
use Rattle.key_commands.specs.declared.tasks.BadValue.{BadValue}
use Rattle.key_commands.specs.Subcommands.{NamesSubcommand, name_of}
use Rattle.key_commands.specs.Parsing.{given, refusals}
use Rattle.key_commands.specs.Tasks.{task_of}
use Rattle.key_commands.specs.Rows.{AsksFor, IsRefused}

-- their first letters tell the subcommands apart
abbrev lettered : ℕ → Subcommand
lettered first =
    if first == 109 then Make else if first == 114 then Read else
    if first == 99 then Confirm else if first == 98 then Bootmac else Load

by_letter : (s : Subcommand) → lettered (get_or (name_of s) 0 0) ≡ s
by_letter Make = refl
by_letter Read = refl
by_letter Confirm = refl
by_letter Bootmac = refl
by_letter Load = refl

-- so the arguments name one subcommand at most
pub names_one : (words : List (List ℕ)) (r s : Subcommand) → NamesSubcommand words r → NamesSubcommand words s → r ≡ s
names_one [] r s left right = absurd left
names_one (word ∷ words) r s left right =
    sym (by_letter r) ∙ ap (λ (name : List ℕ). lettered (get_or name 0 0)) (sym left ∙ right) ∙ by_letter s

-- and ask it for one thing
pub asks_one : (words : List (List ℕ)) (a b : Result Task BadValue) → AsksFor words a → AsksFor words b → a ≡ b
asks_one words a b left right =
    let same : left.0 ≡ right.0 = names_one words left.0 right.0 left.1 right.1 in
    sym left.3 ∙ ap (λ (s : Subcommand). task_of s (given s words)) same ∙ right.3

-- words that ask for something are not refused
pub asks_taken : (words : List (List ℕ)) (asked : Result Task BadValue) → AsksFor words asked → IsRefused words → ⊥
asks_taken words asked asks refused = elim refused [
  | inl none ↦ none asks.0 asks.1
  | inr wrong ↦
      let same : wrong.0 ≡ asks.0 = names_one words wrong.0 asks.0 wrong.1 asks.1 in
      wrong.2 (ap (λ (s : Subcommand). refusals s words) same ∙ asks.2)
]
