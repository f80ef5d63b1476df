use Rattle.bus_world.proofs.turns.frame_of.Goals as goal

pub returns-in-Some-clause-bounded : goal.returns-in-Some-clause-bounded
returns-in-Some-clause-bounded c = rw c.in-Some.is (λ s found. c.frame.ensures.bounded s found)
