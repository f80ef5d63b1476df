use Rattle.std.proofs.Common.{ap, ◌∙◌, map}
use Rattle.she_aes.specs.Substitution.{inverse_by}
use Rattle.she_aes.specs.declared.substitution.TheConstants.{LEFT_PAIR, RIGHT_PAIR}
use Rattle.she_aes.proofs.KeyLanes.{steps}
use Rattle.she_aes.proofs.PairLanes.{substituted_once}
use Rattle.she_aes.proofs.expansion.next_round_key.Goals as goal

pub returns : goal.returns
returns c =
    λ p k below key power_is key_is. steps p below k key c.args.power c.args.key c.inverted.result power_is key_is (c.inverted.ensures ∙ ap (map (inverse_by LEFT_PAIR RIGHT_PAIR)) key_is ∙ substituted_once k key)
