use Rattle.std.proofs.Common.{ap, ◌∙◌}
use Rattle.she_aes.specs.Pairs.{in_pairs}
use Rattle.she_aes.proofs.rounds.begin.Goals as goal

pub returns : goal.returns
returns c = c.pairs.ensures ∙ ap in_pairs c.add_round_key.ensures
