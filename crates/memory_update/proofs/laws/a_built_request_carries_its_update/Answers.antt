use Rattle.memory_update.proofs.CallerLemmas.{Carries-Builds, HasSlots-Carries}
use Rattle.memory_update.proofs.laws.a_built_request_carries_its_update.Goals as goal

pub returns-clause-slots : goal.returns-clause-slots
returns-clause-slots c = λ request authkey u b. HasSlots-Carries request authkey u (Carries-Builds request authkey u b)
