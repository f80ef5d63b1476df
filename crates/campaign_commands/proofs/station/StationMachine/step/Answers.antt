use Rattle.std.proofs.Common.{suc, arith}
use Rattle.campaign_commands.proofs.station.StationMachine.step.Goals as goal

pub returns-clause-ready : goal.returns-clause-ready
returns-clause-ready g c = λ rest ready k d inside. ready (suc k) d (omega (arith, inside))
