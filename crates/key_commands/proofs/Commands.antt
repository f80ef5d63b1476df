-- The commands that clap gets, and what it says of them.
use Rattle.std.proofs.Common.{◌≡◌, ◌∙◌, ◌<◌, ◌+◌, ℕ, List, [], ◌∷◌, ◌++◌, ap, sym, subst, refl, true, inl, inr, length, get_or, map, take}
use Rattle.std.specs.Borrow.{Bor}
use Rattle.std.proofs.lemmas.List.{take_more, map-append}
use Rattle.std.specs.Prelude.{◌≢◌, ◌⊎◌}
use Rattle.clap.specs.Words.{App, HasKind, IsAmong, Row as FoundRow, Rule, fault_of, is_simple, is_simple_and_free, kind_of, matches_of, with_rule}
use Rattle.clap.specs.declared.error.Error.{Error}
use Rattle.clap.specs.declared.error.kind.ErrorKind.{ErrorKind}
use Rattle.clap.specs.declared.error.kind.ErrorKind.TheVariants.{OutOfMemory}
use Rattle.clap.proofs.OnLiterals.{clap_on_literals}
use Rattle.clap.specs.Simple.{new_shape}
use Rattle.key_commands.specs.declared.subcommands.Subcommand.{Subcommand}
use Rattle.key_commands.specs.declared.subcommands.Subcommand.TheVariants.{Make, Read, Confirm, Bootmac, Load}
use Rattle.program_edge.specs.Rows.{Row, row_of, memory_row}
use Rattle.key_commands.specs.Parsing.{command_of, found, refusals, required_text, simple_command}
use Rattle.key_commands.specs.Texts.{key_usage}

-- the command with these rules
abbrev with_rules : List ℕ → List Rule → App
with_rules name rules = record { top = record (new_shape name) { rules = rules }; subs = [] }

-- the names so far and the next one
names_more : (values : List (Bor (List ℕ))) (i : ℕ) (d : Bor (List ℕ)) → i < length values
    → map (λ v. v.now) (take (i + 1) values) ≡ map (λ v. v.now) (take i values) ++ (get_or values i d).now ∷ []
names_more values i d within =
    ap (map (λ (v : Bor (List ℕ)). v.now)) (take_more values i d within)
    ∙ map-append (λ (v : Bor (List ℕ)). v.now) (take i values) (get_or values i d ∷ [])

one_more : (name id : List ℕ) (ids : List (List ℕ)) (a : App) (r : Rule) → a ≡ simple_command name ids → r ≡ required_text id
    → with_rule a r ≡ simple_command name (ids ++ id ∷ [])
one_more name id ids a r a_is r_is =
    rw (a_is, r_is) (ap (with_rules name) (sym (map-append required_text ids (id ∷ []))))

pub next_argument : (name : List ℕ) (values : List (Bor (List ℕ))) (i : ℕ) (d : Bor (List ℕ)) (a : App) (r : Rule)
    → i < length values → a ≡ simple_command name (map (λ v. v.now) (take i values)) → r ≡ required_text (get_or values i d).now
    → with_rule a r ≡ simple_command name (map (λ v. v.now) (take (i + 1) values))
next_argument name values i d a r within a_is r_is =
    one_more name (get_or values i d).now (map (λ v. v.now) (take i values)) a r a_is r_is
    ∙ ap (simple_command name) (sym (names_more values i d within))

-- for these commands it is known exactly when clap refuses the arguments, and what it finds in them
is_simple_and_free_command : (s : Subcommand) → is_simple_and_free (command_of s) ≡ true
unfolding clap_on_literals
is_simple_and_free_command Make = refl
is_simple_and_free_command Read = refl
is_simple_and_free_command Confirm = refl
is_simple_and_free_command Bootmac = refl
is_simple_and_free_command Load = refl

is_simple_command : (s : Subcommand) → is_simple (command_of s) ≡ true
is_simple_command Make = refl
is_simple_command Read = refl
is_simple_command Confirm = refl
is_simple_command Bootmac = refl
is_simple_command Load = refl

pub taken_words : (s : Subcommand) (a : App) (words : List (List ℕ)) → a ≡ command_of s
    → (is_simple_and_free a ≡ true → fault_of a words ≡ []) → refusals s words ≡ []
unfolding refusals
taken_words s a words is taken =
    ap (λ b. fault_of b words) (sym is) ∙ taken (ap is_simple_and_free is ∙ is_simple_and_free_command s)

pub found_values : {X : Type 0} (s : Subcommand) (a : App) (words : List (List ℕ)) (rows : List FoundRow) → a ≡ command_of s
    → (is_simple a ≡ true → (rows ≡ matches_of a words) × X) → rows ≡ found s words
unfolding found
found_values s a words rows is matches =
    (matches (ap is_simple is ∙ is_simple_command s)).0 ∙ ap (λ b. matches_of b words) is

-- the kind of its error says whether memory was out or it refuses
pub refused_words : (s : Subcommand) (a : App) (words : List (List ℕ)) (e : Error) (k : ErrorKind) (row : Row) → a ≡ command_of s
    → (is_simple_and_free a ≡ true → HasKind (fault_of a words) e) → k ≡ kind_of e
    → ((k ≡ OutOfMemory) × (row ≡ memory_row)) ⊎ (¬ (k ≡ OutOfMemory) × (row ≡ row_of 2 key_usage))
    → (row ≡ memory_row) ⊎ ((refusals s words ≢ []) × (row ≡ row_of 2 key_usage))
unfolding refusals
refused_words s a words e k row is kinds k_is (inl (out, row_is)) = inl row_is
refused_words s a words e k row is kinds k_is (inr (other, row_is)) = inr (wrong, row_is)
  where
    wrong : fault_of (command_of s) words ≢ []
    wrong none =
        let empty : fault_of a words ≡ [] = ap (λ b. fault_of b words) is ∙ none in
        elim (kinds (ap is_simple_and_free is ∙ is_simple_and_free_command s)) [
          | inl out ↦ other (k_is ∙ out)
          | inr among ↦ subst (IsAmong (kind_of e)) empty among
        ]
