use Rattle.std.proofs.Common.{ap, ◌∙◌, map}
use Rattle.she_aes.specs.Substitution.{pair}
use Rattle.she_aes.specs.declared.substitution.TheConstants.{BYTE_OF_LOWER, BYTE_OF_UPPER}
use Rattle.she_aes.proofs.PairLanes.{bytes_again}
use Rattle.she_aes.proofs.substitution.bytes_without_constant.Goals as goal

pub returns : goal.returns
returns c = λ bytes block is. c.paired.ensures ∙ ap (map (pair BYTE_OF_LOWER BYTE_OF_UPPER)) is ∙ bytes_again bytes block
