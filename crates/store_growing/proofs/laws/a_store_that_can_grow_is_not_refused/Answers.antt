use Rattle.store_growing.proofs.FirstCauses.{a_store_that_can_grow_is_not_refused}
use Rattle.store_growing.proofs.laws.a_store_that_can_grow_is_not_refused.Goals as goal

pub returns : goal.returns
returns c = a_store_that_can_grow_is_not_refused
