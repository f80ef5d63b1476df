use Rattle.bus_world.proofs.StepLaws.{turns_are_runs}
use Rattle.bus_world.proofs.laws.turns_are_runs.Goals as goal

pub returns : goal.returns
returns c = turns_are_runs
