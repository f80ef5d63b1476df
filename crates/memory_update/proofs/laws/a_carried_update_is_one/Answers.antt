use Rattle.memory_update.proofs.CallerLemmas.{same_update}
use Rattle.memory_update.proofs.laws.a_carried_update_is_one.Goals as goal

pub returns : goal.returns
returns c = same_update
