use Rattle.std.specs.Prelude.{◌≡◌, None, replicate}
use Rattle.std.proofs.Common.{arith, subst}
use Rattle.bus_world.proofs.history.no_places.Goals as goal

pub returns : goal.returns
returns c = subst (λ n. c.loop-id.places.items ≡ replicate n None) {y = 65536} (omega arith) c.loop-id.invariant
