use Rattle.store_growing.proofs.RoutesKept.{route_stays}
use Rattle.store_growing.proofs.laws.bounds_that_stood_stay.Goals as goal

pub returns : goal.returns
returns c = route_stays
