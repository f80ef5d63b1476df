-- the words so far are options, and ask for this
use Rattle.std.proofs.Common.{◌≡◌, drop, map}
use Rattle.std.specs.Prelude.{string_bytes}
use Rattle.watch_commands.specs.OptionWords.{asked_behind, asked_words}
use Rattle.watch_commands.proofs.options.read_words.Given as goal

abbrev pub invariant-loop-place : goal.invariant-loop-place
invariant-loop-place l = asked_behind l.asked (drop l.place (map string_bytes l.words)) ≡ asked_words (map string_bytes l.words)
