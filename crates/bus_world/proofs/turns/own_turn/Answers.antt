use Rattle.std.proofs.Common.{refl}
use Rattle.bus_machine.specs.Bus.{silent_world}
use Rattle.bus_world.proofs.turns.own_turn.Goals as goal

pub returns-clause-turn : goal.returns-clause-turn
returns-clause-turn g c = c.take_turn.ensures.turn silent_world refl

pub returns-clause-source : goal.returns-clause-source
returns-clause-source g c = c.take_turn.ensures.source silent_world refl

pub returns-clause-honest : goal.returns-clause-honest
returns-clause-honest g c = c.take_turn.ensures.honest silent_world refl
