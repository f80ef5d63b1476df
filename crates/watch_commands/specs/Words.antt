-- What the words of the command line of `watch` ask for, the program's name left out
use Rattle.std.specs.Prelude.{ℕ, if◌then◌else◌, List, codes, Option, None, Some}
use Rattle.text_lines.specs.Texts.{line}
use Rattle.can_logs.specs.LogRuns.{NamesInputs, is_only_word}
use Rattle.watch_commands.specs.OptionWords.{watch_inputs}
use Rattle.watch_commands.specs.declared.run.TheConstants.{HELP, VERSION}

-- the line that is printed if the words are of no form
abbrev pub watch_usage : List ℕ
watch_usage = line (codes "usage: watch [--quiet] [--json] [--time] [--strict] [LIMIT..] [--expect FILE] MAP LOG")

-- two words ask for the watch of the map and the log that they name
abbrev pub AsksWatch : List (List ℕ) → Type 0
AsksWatch words = NamesInputs (watch_inputs words)

-- the text that `--help` or `--version` alone ask for
abbrev pub text_asked : List (List ℕ) → Option (List ℕ)
text_asked words =
    if is_only_word (codes "--help") words then Some HELP.now
    else if is_only_word (codes "--version") words then Some VERSION.now
    else None
