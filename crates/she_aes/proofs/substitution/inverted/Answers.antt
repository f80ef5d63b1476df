use Rattle.std.proofs.Common.{◌∙◌}
use Rattle.she_aes.proofs.Substituting.{inverse_of}
use Rattle.she_aes.proofs.substitution.inverted.Goals as goal

pub returns : goal.returns
returns c = c.joined.ensures ∙ inverse_of c.args.left c.args.right c.args.pairs c.quotients.ensures.first c.quotients.ensures.second
