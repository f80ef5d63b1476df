use Rattle.seal_laws.proofs.Bounds.{start_has_place, put_has_place}
use Rattle.seal_laws.proofs.laws.a_jam_needs_cuts_on_a_part_of_blanks.Goals as goal

pub returns-clause-start : goal.returns-clause-start
returns-clause-start c = λ s events cells made a b end after x room run finds few. start_has_place s events cells a b x run room end made after finds few

pub returns-clause-put : goal.returns-clause-put
returns-clause-put c = λ s events cells now a b point x room run is few generation. put_has_place s events cells a b x run room point now is few generation
