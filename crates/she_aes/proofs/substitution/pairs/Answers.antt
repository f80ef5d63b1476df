use Rattle.she_aes.proofs.Pairing.{pairs_are}
use Rattle.std.proofs.Common.{◌∙◌}
use Rattle.she_aes.proofs.substitution.pairs.Goals as goal

pub returns : goal.returns
returns c = c.paired.ensures ∙ pairs_are c.args.bytes
