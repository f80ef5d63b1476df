use Rattle.machine_runs.proofs.CallerLemmas.{Run-more}
use Rattle.machine_runs.proofs.laws.run_and_a_further_moment_is_a_run.Goals as goal

pub returns : goal.returns
returns g c = λ start now moments m run step. Run-more g.M.Steps.steps start moments now m run step
