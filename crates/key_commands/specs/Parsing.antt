-- What clap reads of the arguments from the subcommand on.
use Rattle.std.specs.Prelude.{ℕ, ◌==◌, Bool, true, not, List, [], ◌∷◌, map, unwrap_or}
use Rattle.clap.specs.Words.{App, Kinds, Row, Rule, fault_of, first_of, matches_of, new_rule}
use Rattle.clap.specs.Simple.{new_shape}
use Rattle.key_commands.specs.declared.subcommands.Subcommand.{Subcommand}
use Rattle.key_commands.specs.Subcommands.{name_of, values_of}

-- a required positional text
abbrev pub required_text : List ℕ → Rule
required_text id = record (new_rule id) { required = true }

-- the simple command with this name, whose arguments are required positional texts
abbrev pub simple_command : List ℕ → List (List ℕ) → App
simple_command name values =
    record { top = record (new_shape name) { rules = map required_text values }; subs = [] }

-- the command that reads a subcommand's words
abbrev pub command_of : Subcommand → App
command_of s = simple_command (name_of s) (values_of s)

-- the kinds of error by which clap refuses the arguments; none if it takes them
unfoldable pub refusals : Subcommand → List (List ℕ) → Kinds
refusals s words = fault_of (command_of s) words

-- what clap found in the arguments
unfoldable pub found : Subcommand → List (List ℕ) → List Row
found s words = matches_of (command_of s) words

-- the value of this name. clap gives each required argument a value; one without would have the empty text, which has
-- none of the forms
abbrev pub value_in : List Row → List ℕ → List ℕ
value_in rows name = unwrap_or (first_of name rows) []

-- the values of these names
abbrev pub values_in : List (List ℕ) → List Row → List (List ℕ)
values_in names rows = map (value_in rows) names

-- the values that the arguments give a subcommand
abbrev pub given : Subcommand → List (List ℕ) → List (List ℕ)
given s words = values_in (values_of s) (found s words)

-- a value that doesn't begin with `-`, which is 45
abbrev pub is_plain : List ℕ → Bool
is_plain [] = true
is_plain (c ∷ text) = not (c == 45)
