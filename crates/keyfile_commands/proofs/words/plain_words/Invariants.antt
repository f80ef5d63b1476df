-- the words so far are those of the texts so far
use Rattle.std.proofs.Common.{◌≡◌, map, take}
use Rattle.std.specs.Prelude.{string_bytes}
use Rattle.keyfile_commands.specs.Values.{plain_value}
use Rattle.keyfile_commands.proofs.words.plain_words.Given as goal

abbrev pub invariant-loop-word : goal.invariant-loop-word
invariant-loop-word l = map string_bytes l.made.items ≡ map (λ word. plain_value word.now) (take l.word-index l.words)
