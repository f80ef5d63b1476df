use Rattle.std.proofs.Common.{◌∙◌}
use Rattle.she_aes.specs.Pairs.{without_constant}
use Rattle.she_aes.proofs.PairLanes.{IsBlock-without_constant, constant_again}
use Rattle.she_aes.proofs.rounds.key_of.Goals as goal

pub returns : goal.returns
returns c =
    λ k key is. c.bytes_without_constant.ensures (without_constant k) (IsBlock-without_constant k key) is ∙ constant_again k
