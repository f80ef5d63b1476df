use Rattle.std.proofs.Common.{suc, arith}
use Rattle.secoc_gateway.proofs.gateway.GatewayMachine.step.Goals as goal

pub returns-clause-ready : goal.returns-clause-ready
returns-clause-ready g c = λ rest ready k d inside. ready (suc k) d (omega (arith, inside))
