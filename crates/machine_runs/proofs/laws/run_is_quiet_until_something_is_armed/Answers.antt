use Rattle.machine_runs.specs.FaultLaws.{Run-quiet_until_armed}
use Rattle.machine_runs.proofs.laws.run_is_quiet_until_something_is_armed.Goals as goal

pub returns : goal.returns
returns g c = λ start now moments each quiet run. Run-quiet_until_armed g.M.Faults.steps g.M.Faults.arms g.M.Faults.fails g.M.Faults.quiet each start moments now quiet run
