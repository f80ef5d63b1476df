-- What the words of a command line say before the map and the log, the program's name left out
use Rattle.std.specs.Prelude.{◌≡◌, ℕ, ◌-◌, ◌^◌, ◌==◌, Bool, true, false, length, is_some, if◌then◌else◌, List, [], ◌∷◌, codes, bytes_eq, Option, None, Some, option_map, option_and_then}
use Rattle.text_lines.specs.Forms.{number_form}
use Rattle.can_logs.specs.Seconds.{period_form}
use Rattle.watch_commands.specs.declared.limits.Limits.{Limits}
use Rattle.watch_commands.specs.declared.options.WatchOptions.{WatchOptions}
use Rattle.watch_commands.specs.declared.options.WatchOption.{WatchOption}
use Rattle.watch_commands.specs.declared.options.WatchOption.TheVariants as option
use Rattle.watch_commands.specs.declared.options.WordKind.{WordKind}
use Rattle.watch_commands.specs.declared.options.WordKind.TheVariants as kind
use Rattle.watch_commands.specs.Limits.{no_limits}

-- the option that a word is: one that has a value, or any
abbrev pub valued_option_of : List ℕ → Option WatchOption
valued_option_of word =
    if bytes_eq word (codes "--expect") then Some option.Expect
    else if bytes_eq word (codes "--missed") then Some option.Missed
    else if bytes_eq word (codes "--missed-share") then Some option.MissedShare
    else if bytes_eq word (codes "--malformed") then Some option.Malformed
    else if bytes_eq word (codes "--silent") then Some option.Silent
    else None

abbrev pub option_of : List ℕ → Option WatchOption
option_of word =
    if bytes_eq word (codes "--quiet") then Some option.Quiet
    else if bytes_eq word (codes "--json") then Some option.Json
    else if bytes_eq word (codes "--time") then Some option.Time
    else if bytes_eq word (codes "--strict") then Some option.Strict
    else if bytes_eq word (codes "--unmapped") then Some option.Unmapped
    else valued_option_of word

-- what words ask for: how findings are printed and what passes; the file of `--expect`; and the option whose value comes
-- next, if the last word was one that has a value
pub record Asked : Type 0 where
  pub options : WatchOptions
  pub kept : Option (List ℕ)
  pub waiting : Option WatchOption

abbrev pub nothing_asked : Asked
nothing_asked = record {
  options = record { quiet = false; json = false; time = false; strict = false; limits = no_limits };
  kept = None;
  waiting = None;
}

-- an option of one word asks for what it says; the value of any other comes next
abbrev pub with_option : Asked → WatchOption → Asked
with_option asked option.Quiet = record asked { options = record asked.options { quiet = true } }
with_option asked option.Json = record asked { options = record asked.options { json = true } }
with_option asked option.Time = record asked { options = record asked.options { time = true } }
with_option asked option.Strict = record asked { options = record asked.options { strict = true } }
with_option asked option.Unmapped =
    record asked { options = record asked.options { limits = record asked.options.limits { unmapped = Some 0 } } }
with_option asked option.Expect = record asked { waiting = Some option.Expect }
with_option asked option.Missed = record asked { waiting = Some option.Missed }
with_option asked option.MissedShare = record asked { waiting = Some option.MissedShare }
with_option asked option.Malformed = record asked { waiting = Some option.Malformed }
with_option asked option.Silent = record asked { waiting = Some option.Silent }

abbrev pub is_expect : WatchOption → Bool
is_expect option.Quiet = false
is_expect option.Json = false
is_expect option.Time = false
is_expect option.Strict = false
is_expect option.Unmapped = false
is_expect option.Expect = true
is_expect option.Missed = false
is_expect option.MissedShare = false
is_expect option.Malformed = false
is_expect option.Silent = false

-- a limit that is given once: a number of so many at most
abbrev pub new_limit : Option ℕ → ℕ → List ℕ → Option ℕ
new_limit given most word = if is_some given then None else number_form 0 most word

-- a silence that is given once: at least a microsecond
abbrev pub new_silence : Option ℕ → List ℕ → Option ℕ
new_silence given word = if is_some given then None else period_form word

-- limits with the value of one more option, if it is one
abbrev pub limits_with : Limits → List ℕ → WatchOption → Option Limits
limits_with limits word option.Missed =
    option_map (λ n. record limits { missed = Some n }) (new_limit limits.missed (2 ^ 64 - 1) word)
limits_with limits word option.MissedShare =
    option_map (λ n. record limits { missed_share = Some n }) (new_limit limits.missed_share 100 word)
limits_with limits word option.Malformed =
    option_map (λ n. record limits { malformed = Some n }) (new_limit limits.malformed (2 ^ 64 - 1) word)
limits_with limits word option.Silent =
    option_map (λ n. record limits { silent = Some n }) (new_silence limits.silent word)
limits_with limits word option.Quiet = None
limits_with limits word option.Json = None
limits_with limits word option.Time = None
limits_with limits word option.Strict = None
limits_with limits word option.Unmapped = None
limits_with limits word option.Expect = None

-- what is asked for with the file of `--expect`, which is given once, or with these limits
abbrev pub with_kept : Asked → List ℕ → Option Asked
with_kept asked word = if is_some asked.kept then None else Some (record asked { kept = Some word; waiting = None })

abbrev pub with_limits : Asked → Limits → Asked
with_limits asked limits = record asked { options = record asked.options { limits = limits }; waiting = None }

-- the same with the value of an option, if it can have it
abbrev pub with_value : Asked → List ℕ → WatchOption → Option Asked
with_value asked word option =
    if is_expect option then with_kept asked word
    else option_map (with_limits asked) (limits_with asked.options.limits word option)

-- what a word is behind others: one more word of the options, the first word that is none of them, or a value that the
-- option before it can't have
pub data OptionStep : Type 0 where
  next_option : (asked : Asked) → OptionStep
  is_input : OptionStep
  is_no_value : OptionStep

abbrev pub step_of_option : Asked → Option WatchOption → OptionStep
step_of_option asked None = is_input
step_of_option asked (Some option) = next_option (with_option asked option)

abbrev pub step_of_value : Option Asked → OptionStep
step_of_value None = is_no_value
step_of_value (Some asked) = next_option asked

abbrev pub step_at : Asked → List ℕ → Option WatchOption → OptionStep
step_at asked word None = step_of_option asked (option_of word)
step_at asked word (Some option) = step_of_value (with_value asked word option)

abbrev pub step_of : Asked → List ℕ → OptionStep
step_of asked word = step_at asked word asked.waiting

-- what the steps of the code say: an option was given its value, if it can have it; and a word was taken, and is this
abbrev pub SetsValue : Option Asked → Asked → Asked → Bool → Type 0
SetsValue None old new has = (has ≡ false) × (new ≡ old)
SetsValue (Some next) old new has = (has ≡ true) × (new ≡ next)

abbrev pub TakesWord : OptionStep → Asked → Asked → WordKind → Type 0
TakesWord (next_option next) old new is = (is ≡ kind.Option) × (new ≡ next)
TakesWord is_input old new is = (is ≡ kind.Input) × (new ≡ old)
TakesWord is_no_value old new is = (is ≡ kind.NoValue) × (new ≡ old)

-- what a command line asks for, and its words behind the options; none if an option has no value, or one that it can't
-- have
pub record AskedWords : Type 0 where
  pub asked : Asked
  pub inputs : List (List ℕ)

-- what words ask for behind others. The options stand before all other words, in any order
unfoldable pub asked_behind : Asked → List (List ℕ) → AskedWords
asked_behind asked [] = record { asked = asked; inputs = [] }
asked_behind asked (word ∷ rest) = elim (step_of asked word) as (λ _. AskedWords) [
  | next_option next ↦ asked_behind next rest
  | is_input ↦ record { asked = asked; inputs = word ∷ rest }
  | is_no_value ↦ record { asked = asked; inputs = [] }
]

abbrev pub asked_words : List (List ℕ) → AskedWords
asked_words words = asked_behind nothing_asked words

abbrev pub watch_options : List (List ℕ) → WatchOptions
watch_options words = (asked_words words).asked.options

-- the words behind the options
abbrev pub watch_inputs : List (List ℕ) → List (List ℕ)
watch_inputs words = (asked_words words).inputs

-- the file that is to be compared with what is found, if two words name the map and the log
abbrev pub kept_file : List (List ℕ) → Option (List ℕ)
kept_file words = if length (watch_inputs words) == 2 then (asked_words words).asked.kept else None
