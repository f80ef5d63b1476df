use Rattle.memory_update.proofs.CallerLemmas.{same_from_Allows, Allows-some}
use Rattle.memory_update.proofs.laws.one_answer_to_a_load.Goals as goal

pub returns-clause-one : goal.returns-clause-one
returns-clause-one c = same_from_Allows

pub returns-clause-some : goal.returns-clause-some
returns-clause-some c = Allows-some
