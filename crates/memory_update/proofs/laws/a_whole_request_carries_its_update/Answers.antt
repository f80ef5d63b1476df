use Rattle.memory_update.proofs.CallerLemmas.{Carries-update_in, update_in-carried}
use Rattle.memory_update.proofs.laws.a_whole_request_carries_its_update.Goals as goal

pub returns-clause-carried : goal.returns-clause-carried
returns-clause-carried c = Carries-update_in

pub returns-clause-only : goal.returns-clause-only
returns-clause-only c = update_in-carried
