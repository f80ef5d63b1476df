-- The kinds of commands: their names, and how many words a line of each has (own)
use Rattle.std.specs.Prelude.{ℕ, List, [], ◌∷◌, Option, codes, find}
use Rattle.std.specs.Str.{bytes_eq}
use Rattle.campaign_commands.specs.declared.kinds.CommandKind.{CommandKind}
use Rattle.campaign_commands.specs.declared.kinds.CommandKind.TheVariants.{Issue, Confirm, Show, Cut, Stop, Fail}

abbrev pub command_name : CommandKind → List ℕ
command_name Issue = codes "issue"
command_name Confirm = codes "confirm"
command_name Show = codes "show"
command_name Cut = codes "cut"
command_name Stop = codes "stop"
command_name Fail = codes "fail"

-- how many words a line of the kind has, the command's name included
abbrev pub command_words : CommandKind → ℕ
command_words Issue = 7
command_words Confirm = 7
command_words Show = 3
command_words Cut = 2
command_words Stop = 2
command_words Fail = 2

abbrev pub command_kinds : List CommandKind
command_kinds = Issue ∷ Confirm ∷ Show ∷ Cut ∷ Stop ∷ Fail ∷ []

-- the kind that a word names
unfoldable pub command_kind_of : List ℕ → Option CommandKind
command_kind_of word = find (λ kind. bytes_eq word (command_name kind)) command_kinds
