use Rattle.seal_laws.proofs.Living.{formatted_lives, later_lives}
use Rattle.seal_laws.proofs.laws.a_put_is_whole_or_absent_on_a_part_of_blanks.Goals as goal

pub returns-clause-formatted : goal.returns-clause-formatted
returns-clause-formatted c = λ s events cells now point a b x run is. formatted_lives s events cells cells now a b point x run is

pub returns-clause-later : goal.returns-clause-later
returns-clause-later c = λ s earlier events first cells now point later start a b x before was run is. later_lives s events first cells now a b earlier start point later x before was run is
