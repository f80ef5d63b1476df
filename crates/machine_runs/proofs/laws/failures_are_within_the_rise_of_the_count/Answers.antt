use Rattle.machine_runs.specs.FaultLaws.{Run-fails_within}
use Rattle.machine_runs.proofs.laws.failures_are_within_the_rise_of_the_count.Goals as goal

pub returns : goal.returns
returns g c = λ start now moments each run. Run-fails_within g.M.Faults.steps g.M.Faults.fails g.M.Faults.count each start moments now run
