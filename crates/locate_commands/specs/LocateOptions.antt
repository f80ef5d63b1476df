-- What the words of `explain --locate [--from N] [--to N] MAP LOG` ask for
use Rattle.std.specs.Prelude.{ℕ, ◌-◌, ◌^◌, ◌==◌, Bool, false, if◌then◌else◌, List, [], ◌∷◌, length}
use Rattle.std.specs.Prelude.{Option, None, Some, option_map, option_and_then, codes, bytes_eq}
use Rattle.text_lines.specs.Forms.{number_form}
use Rattle.locate_commands.specs.declared.options.Candidates.{Candidates}

-- the first word is `--locate`
abbrev pub says_locate : List (List ℕ) → Bool
says_locate [] = false
says_locate (first ∷ rest) = bytes_eq first (codes "--locate")

-- a number, and the words after it
pub record NumberAndRest : Type 0 where
  pub number : ℕ
  pub rest : List (List ℕ)

-- the number that follows this word, 1 to 2^64 - 1, if the words begin with it; else this one, and all words
abbrev pub number_after : List ℕ → ℕ → List (List ℕ) → Option NumberAndRest
number_after name otherwise [] = Some (record { number = otherwise; rest = [] })
number_after name otherwise (first ∷ []) = Some (record { number = otherwise; rest = first ∷ [] })
number_after name otherwise (first ∷ next ∷ rest) =
    if bytes_eq first name
    then option_map (λ n. record { number = n; rest = rest }) (number_form 1 (2 ^ 64 - 1) next)
    else Some (record { number = otherwise; rest = first ∷ next ∷ rest })

-- the values of freshness that are looked at, and the words that name the map and the log
pub record LocateArguments : Type 0 where
  pub candidates : Candidates
  pub inputs : List (List ℕ)

abbrev pub two_inputs : ℕ → NumberAndRest → Option LocateArguments
two_inputs first last =
    if length last.rest == 2
    then Some (record { candidates = record { first = first; last = last.number }; inputs = last.rest })
    else None

abbrev pub last_and_inputs : NumberAndRest → Option LocateArguments
last_and_inputs first =
    option_and_then (two_inputs first.number) (number_after (codes "--to") (2 ^ 32) first.rest)

-- without `--from` the first value is 1, and without `--to` the last is 2^32
abbrev pub locate_asked : List (List ℕ) → Option LocateArguments
locate_asked [] = None
locate_asked (name ∷ rest) =
    if bytes_eq name (codes "--locate") then option_and_then last_and_inputs (number_after (codes "--from") 1 rest)
    else None

-- the words that name the map and the log, if all are of the form; else none
abbrev pub inputs_asked : Option LocateArguments → List (List ℕ)
inputs_asked None = []
inputs_asked (Some asked) = asked.inputs

abbrev pub locate_inputs : List (List ℕ) → List (List ℕ)
locate_inputs words = inputs_asked (locate_asked words)
