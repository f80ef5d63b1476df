-- What comes of an input and of a store comes of `load` alone
use Rattle.std.proofs.Common.{◌≡◌, ◌⊎◌, ◌≤◌, ℕ, List, get_or, map, ap, subst, arith}
use Rattle.std.specs.Prelude.{codes}
use Rattle.program_edge.specs.Endings.{Ending}
use Rattle.key_commands.specs.declared.example.TheConstants.{EXAMPLE}
use Rattle.key_commands.specs.declared.subcommands.Subcommand.TheVariants.{Load}
use Rattle.key_commands.specs.Subcommands.{NamesSubcommand}
use Rattle.key_commands.specs.Rows.{KeyInputs}
use Rattle.key_commands.specs.Keys.{Keys}
use Rattle.key_commands.proofs.Engines.{load_named}

abbrev pub IsOfLoad : ℕ → Type 0
IsOfLoad status = (status ≡ 4) ⊎ (status ≡ 5) ⊎ (8 ≤ status)

pub load_alone : {S D : Type 0} (i : KeyInputs S D) (e : Ending) → Keys i e → IsOfLoad e.status → NamesSubcommand i.words Load
load_alone i e runs high =
    let asks = runs.load_alone high in
    load_named i.words asks.0 asks.1

-- the example makes an update
pub example_alone : {S D : Type 0} (i : KeyInputs S D) (e : Ending) → i.words ≡ map (λ text. text.now) EXAMPLE → Keys i e → ¬ IsOfLoad e.status
example_alone i e words runs high =
    let made : codes "make" ≡ codes "load" = subst (λ (ws : List (List ℕ)). NamesSubcommand ws Load) words (load_alone i e runs high) in
    omega (arith, ap (λ (w : List ℕ). get_or w 0 0) made)
