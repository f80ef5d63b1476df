use Rattle.memory_update.proofs.CallerLemmas.{id_of-Allows, counter_of-Allows}
use Rattle.memory_update.proofs.laws.a_taken_update_raises_the_counter.Goals as goal

pub returns-clause-target : goal.returns-clause-target
returns-clause-target c = λ slots good uid request u x. (id_of-Allows slots good uid request u x).0

pub returns-clause-counter : goal.returns-clause-counter
returns-clause-counter c = counter_of-Allows
