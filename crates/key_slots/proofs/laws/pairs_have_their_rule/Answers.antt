use Rattle.key_slots.proofs.PairRule.{rule_of_pair, pair_of_rule}
use Rattle.key_slots.proofs.laws.pairs_have_their_rule.Goals as goal

pub returns : goal.returns
returns c = λ target auth. (rule_of_pair target auth, pair_of_rule target auth)
