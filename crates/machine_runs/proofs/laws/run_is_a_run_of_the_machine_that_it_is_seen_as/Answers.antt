use Rattle.machine_runs.proofs.CallerLemmas.{Run-seen_as}
use Rattle.machine_runs.proofs.laws.run_is_a_run_of_the_machine_that_it_is_seen_as.Goals as goal

pub returns : goal.returns
returns g c = λ start now moments each holds run. Run-seen_as g.M.View.steps g.M.View.seen_steps g.M.View.command g.M.View.state g.M.View.holds each start moments now holds run
