use Rattle.bus_lives.proofs.Chain.{lives_can_go_on}
use Rattle.bus_lives.proofs.laws.lives_can_go_on.Goals as goal

pub returns : goal.returns
returns c = lives_can_go_on
