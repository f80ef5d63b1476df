use Rattle.flash_calls.proofs.HeadLives.{made_tells, telling_is_kept}
use Rattle.flash_calls.proofs.laws.a_store_tells_its_geometry.Goals as goal

pub returns-clause-made : goal.returns-clause-made
returns-clause-made c = made_tells

pub returns-clause-stays : goal.returns-clause-stays
returns-clause-stays c = telling_is_kept
