use Rattle.machine_runs.proofs.CallerLemmas.{Run-made_of}
use Rattle.machine_runs.proofs.laws.run_of_made_steps_is_a_run_of_their_parts.Goals as goal

pub returns : goal.returns
returns g c = λ start now moments each holds run. Run-made_of g.M.Composite.steps g.M.Composite.part_steps g.M.Composite.parts g.M.Composite.state g.M.Composite.holds each start moments now holds run
