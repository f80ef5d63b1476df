-- The subcommands and the names of their values.
use Rattle.std.specs.Prelude.{◌≡◌, ℕ, List, [], ◌∷◌, codes}
use Rattle.key_commands.specs.declared.subcommands.Subcommand.{Subcommand}
use Rattle.key_commands.specs.declared.subcommands.Subcommand.TheVariants.{Make, Read, Confirm, Bootmac, Load}

-- the word that names a subcommand
abbrev pub name_of : Subcommand → List ℕ
name_of Make = codes "make"
name_of Read = codes "read"
name_of Confirm = codes "confirm"
name_of Bootmac = codes "bootmac"
name_of Load = codes "load"

-- the names of its values, in their order on the command line
abbrev pub values_of : Subcommand → List (List ℕ)
values_of Make =
    codes "UID" ∷ codes "ID" ∷ codes "AUTH" ∷ codes "COUNTER" ∷ codes "FLAGS" ∷ codes "NEWKEY" ∷ codes "AUTHKEY" ∷ []
values_of Read = codes "AUTHKEY" ∷ codes "M1" ∷ codes "M2" ∷ codes "M3" ∷ []
values_of Confirm =
    codes "UID" ∷ codes "ID" ∷ codes "AUTH" ∷ codes "COUNTER" ∷ codes "NEWKEY" ∷ codes "M4" ∷ codes "M5" ∷ []
values_of Bootmac = codes "KEY" ∷ codes "IMAGE" ∷ []
values_of Load = codes "FILE" ∷ codes "UID" ∷ []

-- the arguments after the program's name begin with the subcommand's
abbrev pub NamesSubcommand : List (List ℕ) → Subcommand → Type 0
NamesSubcommand [] s = ⊥
NamesSubcommand (word ∷ words) s = word ≡ name_of s
