use Rattle.store_growing.proofs.FirstCauses.{can_or_cannot}
use Rattle.store_growing.proofs.laws.can_or_cannot.Goals as goal

pub returns : goal.returns
returns c = can_or_cannot
