use Rattle.std.proofs.Common.{subst}
use Rattle.secoc_node.specs.State.{FitsNow}
use Rattle.secoc_gateway.specs.State.{over}
use Rattle.secoc_gateway.proofs.gateway.Gateway.power_cut.Goals as goal

pub returns-clause-fits : goal.returns-clause-fits
returns-clause-fits g c = subst (λ s. FitsNow (over s) → FitsNow c.power_cut.new.self) c.self.view_is c.power_cut.ensures.fits
