use Rattle.memory_update.proofs.CallerLemmas.{Allows-Builds}
use Rattle.memory_update.proofs.laws.a_built_request_is_taken.Goals as goal

pub returns : goal.returns
returns c = Allows-Builds
