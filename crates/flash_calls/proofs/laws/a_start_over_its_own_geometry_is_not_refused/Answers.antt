use Rattle.flash_calls.proofs.HeadLives.{own_is_kept}
use Rattle.flash_calls.proofs.laws.a_start_over_its_own_geometry_is_not_refused.Goals as goal

pub returns-clause-goes : goal.returns-clause-goes
returns-clause-goes c s deeds a b begun tell lives = (own_is_kept s deeds a b begun tell lives).0

pub returns-clause-stays : goal.returns-clause-stays
returns-clause-stays c s deeds a b begun tell lives = (own_is_kept s deeds a b begun tell lives).1
