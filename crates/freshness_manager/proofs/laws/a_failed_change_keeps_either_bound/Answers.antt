use Rattle.freshness_manager.proofs.Kept.{either_kept}
use Rattle.freshness_manager.proofs.laws.a_failed_change_keeps_either_bound.Goals as goal

pub returns : goal.returns
returns c = either_kept
