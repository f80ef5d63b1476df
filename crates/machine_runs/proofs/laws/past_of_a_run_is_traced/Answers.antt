use Rattle.machine_runs.specs.PastLaws.{Run-traced}
use Rattle.machine_runs.proofs.laws.past_of_a_run_is_traced.Goals as goal

pub returns : goal.returns
returns g c = λ start now moments each holds begun run. Run-traced g.M.Past.steps g.M.Past.past g.M.Past.holds g.M.Past.begins g.M.Past.adds each start moments now holds begun run
