-- the arguments so far are those of the texts so far
use Rattle.std.proofs.Common.{◌≡◌, map, take}
use Rattle.std.specs.Prelude.{string_bytes}
use Rattle.bus_programs.proofs.examples.texts_of.Given as goal

abbrev pub invariant-loop-text : goal.invariant-loop-text
invariant-loop-text l = map string_bytes l.words.items ≡ map (λ text. text.now) (take l.text-index l.texts)
