use Rattle.key_slots.proofs.CallerLemmas.{is_pair_listed, listed_is_pair, slots_of_pair}
use Rattle.key_slots.proofs.laws.the_test_decides_the_pairs.Goals as goal

pub returns-clause-decides : goal.returns-clause-decides
returns-clause-decides c = λ target auth. (is_pair_listed target auth, listed_is_pair target auth)

pub returns-clause-slots : goal.returns-clause-slots
returns-clause-slots c = λ target auth h. slots_of_pair target auth (listed_is_pair target auth h)
