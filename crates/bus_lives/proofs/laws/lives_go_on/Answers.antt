use Rattle.bus_lives.proofs.Chain.{lives_go_on}
use Rattle.bus_lives.proofs.laws.lives_go_on.Goals as goal

pub returns : goal.returns
returns c = lives_go_on
