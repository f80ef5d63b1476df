use Rattle.machine_runs.proofs.CallerLemmas.{Run-split}
use Rattle.machine_runs.proofs.laws.front_of_a_run_is_a_run.Goals as goal

pub returns : goal.returns
returns g c = λ start now front rest run. Run-split g.M.Steps.steps start front rest now run
