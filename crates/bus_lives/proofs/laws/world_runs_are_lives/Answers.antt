use Rattle.bus_lives.proofs.Chain.{world_runs_are_lives}
use Rattle.bus_lives.proofs.laws.world_runs_are_lives.Goals as goal

pub returns : goal.returns
returns c = world_runs_are_lives
