use Rattle.store_growing.proofs.RoutesKept.{counted_law, store_law, held_law, ends_the_same}
use Rattle.store_growing.proofs.laws.a_cell_that_was_counted_stays.Goals as goal

pub returns-clause-counted : goal.returns-clause-counted
returns-clause-counted c = counted_law

pub returns-clause-store : goal.returns-clause-store
returns-clause-store c = store_law

pub returns-clause-held : goal.returns-clause-held
returns-clause-held c = held_law

pub returns-clause-ends : goal.returns-clause-ends
returns-clause-ends c = λ routes x y z few are room cut. ends_the_same routes x y few are room cut z
