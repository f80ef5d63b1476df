use Rattle.std.proofs.Common.{[]}
use Rattle.machine_runs.proofs.CallerLemmas.{Run-keeps}
use Rattle.machine_runs.proofs.laws.what_each_step_keeps_holds_at_the_end.Goals as goal

pub returns : goal.returns
returns g c = λ start now moments holds keeps run. Run-keeps g.M.Claim.steps g.M.Claim.holds keeps start [] moments now holds run
