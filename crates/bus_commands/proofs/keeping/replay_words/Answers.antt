use Rattle.std.specs.Prelude.{string_bytes, codes}
use Rattle.std.proofs.Common.{map, [], ◌∷◌}
use Rattle.bus_commands.proofs.KeptWordsAsked.{one_plain}
use Rattle.bus_commands.proofs.keeping.replay_words.Goals as goal

pub returns-in-Some-clause-keeps : goal.returns-in-Some-clause-keeps
returns-in-Some-clause-keeps g c plain keeps =
    rw (← one_plain (map string_bytes c.args.words.now) (codes "node" ∷ c.in-Some.kept.bus.now ∷ c.in-Some.kept.file.now ∷ c.in-Some.kept.disk.now ∷ []) plain c.in-Some.ensures.some keeps)
    c.keep_words.ensures.runs
