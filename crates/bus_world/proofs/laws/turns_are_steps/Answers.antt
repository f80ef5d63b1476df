use Rattle.bus_world.proofs.StepLaws.{turn_is_step}
use Rattle.bus_world.proofs.laws.turns_are_steps.Goals as goal

pub returns : goal.returns
returns c = turn_is_step
